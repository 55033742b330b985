-- The characters that bytes spell, from left to right, and the first fault of a ticket text.
use Rattle.std.specs.Prelude.{ℕ, zero, suc, ◌+◌, Bool, false, cond, List, [], ◌∷◌, length, take, drop, Some, None, Ok, Err, Option, Result}
use Rattle.std.specs.Str.{bytes_eq}
use Rattle.refusal.specs.Chain.{then, lift, demand}
use Rattle.field.specs.Areas.{Area}
use Rattle.text_code.specs.Characters.{is_allowed}
use Rattle.wrap.specs.Flow.{fits}
use Rattle.wrap.specs.declared.checks.TextFault.{TextFault}
use Rattle.wrap.specs.declared.checks.TextFault.TheVariants.{Character, TooLarge}

-- whether a spelling begins the bytes
abbrev pub begins : Option (List ℕ) → List ℕ → Bool
begins None bytes = false
begins (Some bs) bytes = bytes_eq bs (take (length bs) bytes)

-- the character below n whose spelling begins the bytes
unfoldable pub among : (ℕ → Option (List ℕ)) → List ℕ → ℕ → Option ℕ
among f bytes zero = None
among f bytes (suc n) = cond (begins (f n) bytes) (Some n) (among f bytes n)

abbrev pub length_of : Option (List ℕ) → ℕ
length_of None = 0
length_of (Some bs) = length bs

abbrev pub or_fault : ℕ → Option ℕ → Result ℕ ℕ
or_fault place None = Err place
or_fault place (Some c) = Ok c

-- The characters that the bytes spell, or the place of the first that is malformed or not allowed.
-- A character has at least one byte: as many steps as there are bytes are enough.
unfoldable pub text_from : (ℕ → Option (List ℕ)) → ℕ → ℕ → List ℕ → Result (List ℕ) ℕ
text_from f zero place bytes = Ok []
text_from f (suc steps) place [] = Ok []
text_from f (suc steps) place (b ∷ bytes) =
    then (or_fault place (among f (b ∷ bytes) 1114112)) (λ c.
    then (demand (is_allowed c) place) (λ _.
    then (text_from f steps (place + length_of (f c)) (drop (length_of (f c)) (b ∷ bytes))) (λ cs. Ok (c ∷ cs))))

-- the characters of a ticket text that fits its rectangle, or its first fault
abbrev pub text_in : (ℕ → Option (List ℕ)) → Area → List ℕ → Result (List ℕ) TextFault
text_in f area bytes =
    then (lift Character (text_from f (length bytes) 0 bytes)) (λ cs.
    then (demand (fits area.height area.width cs) TooLarge) (λ _. Ok cs))

-- whether it went well, or the fault
abbrev pub forget : {X F : Type 0} → Result X F → Result (Unit {0}) F
forget (Ok x) = Ok tt
forget (Err fault) = Err fault
