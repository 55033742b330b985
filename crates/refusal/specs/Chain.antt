-- Checks one after another: the first fault ends them.
use Rattle.std.specs.Prelude.{Bool, cond, Ok, Err, Result}

-- what the first tells goes on to the next
abbrev pub then : {X Y F : Type 0} → Result X F → (X → Result Y F) → Result Y F
then (Ok x) next = next x
then (Err f) next = Err f

-- a fault of a lower layer, as the next layer holds it
abbrev pub lift : {X F G : Type 0} → (F → G) → Result X F → Result X G
lift up (Ok x) = Ok x
lift up (Err f) = Err (up f)

-- the fault, unless the test holds
abbrev pub demand : {F : Type 0} → Bool → F → Result (Unit {0}) F
demand holds f = cond holds (Ok tt) (Err f)
