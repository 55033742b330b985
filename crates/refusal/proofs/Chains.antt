-- What it says of the checks of a chain that the chain went through, and back.
use Rattle.std.proofs.Common.{◌≡◌, ℕ, Bool, true, false, cond, Ok, Err, Result, refl, ap, ◌∙◌, arith}
use Rattle.refusal.specs.Chain.{then, lift, demand}

pub ok_same : {X F : Type 0} (x y : X) → ◌≡◌ {A = Result X F} (Ok x) (Ok y) → x ≡ y
ok_same x y e = cc

pub then_ok : {X Y F : Type 0} (r : Result X F) (next : X → Result Y F) (y : Y) → then r next ≡ Ok y → (x : X) × (r ≡ Ok x) × (next x ≡ Ok y)
then_ok (Ok x) next y e = (x, refl, e)
then_ok (Err f) next y e = let z : ◌≡◌ {A = ℕ} 0 1 = cc in absurd (omega arith)

pub then_go : {X Y F : Type 0} (r : Result X F) (next : X → Result Y F) (x : X) (y : Result Y F) → r ≡ Ok x → next x ≡ y → then r next ≡ y
then_go r next x y e h = ap (λ q. then q next) e ∙ h

pub lift_ok : {X F G : Type 0} (up : F → G) (r : Result X F) (x : X) → lift up r ≡ Ok x → r ≡ Ok x
lift_ok up (Ok y) x e = let q : y ≡ x = cc in ap Ok q
lift_ok up (Err f) x e = let z : ◌≡◌ {A = ℕ} 0 1 = cc in absurd (omega arith)

-- a result that stands behind a test
pub cond_ok : {X F : Type 0} (b : Bool) (r : Result X F) (f : F) (x : X) → cond b r (Err f) ≡ Ok x → (b ≡ true) × (r ≡ Ok x)
cond_ok true r f x e = (refl, e)
cond_ok false r f x e = let z : ◌≡◌ {A = ℕ} 0 1 = cc in absurd (omega arith)

pub demand_ok : {F : Type 0} (b : Bool) (f : F) (u : Unit {0}) → demand b f ≡ Ok u → b ≡ true
demand_ok b f u e = (cond_ok b (Ok tt) f u e).0

pub demand_go : {F : Type 0} (b : Bool) (f : F) → b ≡ true → demand b f ≡ Ok tt
demand_go b f e = ap (λ t. demand t f) e
