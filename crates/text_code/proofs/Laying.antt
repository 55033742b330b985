-- Spellings laid one after another over a buffer.
use Rattle.std.proofs.Common.{◌≡◌, ℕ, min, ◌+◌, ◌<◌, ◌≤◌, true, List, [], ◌∷◌, ◌++◌, length, get_or, drop, Some, None, Ok, Err, Option, Result, sym, refl, ap, ◌∙◌, subst, arith, rules}
use Rattle.std.proofs.lemmas.List.{drop_all, drop_more, length-append}
use Rattle.std.specs.List.{AllByRecursion}
use Rattle.std.specs.Option.{IsSome, option_map}
use Rattle.std.specs.Result.{result_ok}
use Rattle.lists.specs.Laying.{laid}
use Rattle.lists.proofs.Laws.{laid_nothing, laid-laid}
use Rattle.text_code.specs.declared.characters.CharacterFault.{CharacterFault}
use Rattle.text_code.specs.declared.characters.Permitted.TheVariants.{Any}
use Rattle.text_code.specs.Characters.{permits}
use Rattle.text_code.specs.Spellings.{Spelled}
use Rattle.text_code.specs.Writing.{LaidTo, Measured, OnlyMeasure, Unlaid, spelling_bytes}
use Rattle.text_code.specs.declared.spelling.Spelling.{Spelling}
use Rattle.text_code.proofs.Decoding.{Parted, spelled_parts}

-- what is left to lay, characters i and on, completes the whole
pub record LeftToLay (f : ℕ → Option (List ℕ)) (cs was : List ℕ) (place : ℕ) (now : List ℕ) (i at : ℕ) : Type 0 where
  pub whole : List ℕ
  pub spelled : Spelled f cs whole
  pub fits : place + length whole ≤ length was
  pub left : List ℕ
  pub ahead : Spelled f (drop i cs) left
  pub ends : at + length left ≡ place + length whole
  pub completes : laid now at left ≡ laid was place whole

lay_start : (f : ℕ → Option (List ℕ)) (cs was bytes : List ℕ) (place : ℕ) → Spelled f cs bytes → place + length bytes ≤ length was → LeftToLay f cs was place was 0 place
lay_start f cs was bytes place s h = record { whole = bytes; spelled = s; fits = h; left = bytes; ahead = s; ends = refl; completes = refl }

pub lay_measured : (f : ℕ → Option (List ℕ)) (cs was : List ℕ) (place n : ℕ) (r : Result ℕ CharacterFault) → Measured f Any cs r → Some n ≡ result_ok r → place + n ≤ length was → LeftToLay f cs was place was 0 place
lay_measured f cs was place n (Ok m) (bytes, text, long) some fits = let e : n ≡ m = cc in lay_start f cs was bytes place text.spelled (omega (arith, e, long))
lay_measured f cs was place n (Err fault) m some fits = let z : ◌≡◌ {A = ℕ} 0 1 = cc in absurd (omega arith)

-- the next character, and those behind it
pub lay_next : (f : ℕ → Option (List ℕ)) (cs was now : List ℕ) (place i at : ℕ) → i < length cs → (l : LeftToLay f cs was place now i at) → Parted f (get_or cs i 0) (drop (i + 1) cs) l.left
lay_next f cs was now place i at h l = spelled_parts f (get_or cs i 0) (drop (i + 1) cs) l.left (subst (λ zs. Spelled f zs l.left) (drop_more cs i 0 h) l.ahead)

lay_spells : (f : ℕ → Option (List ℕ)) (cs was now : List ℕ) (place i at : ℕ) → i < length cs → LeftToLay f cs was place now i at → None ≡ f (get_or cs i 0) → ⊥
lay_spells f cs was now place i at h l none =
    let p = lay_next f cs was now place i at h l in
    let e : ◌≡◌ {A = Option (List ℕ)} None (Some p.first) = none ∙ p.spells in
    let z : ◌≡◌ {A = ℕ} 0 1 = cc in omega arith

pub lay_unwraps : (f : ℕ → Option (List ℕ)) (cs was now : List ℕ) (place i at : ℕ) (o : Option Spelling) → i < length cs → LeftToLay f cs was place now i at → option_map spelling_bytes o ≡ f (get_or cs i 0) → IsSome o
lay_unwraps f cs was now place i at None h l e = absurd (lay_spells f cs was now place i at h l e)
lay_unwraps f cs was now place i at (Some s) h l e = search rules

same_spelling : (f : ℕ → Option (List ℕ)) (c : ℕ) (s t : List ℕ) → f c ≡ Some s → f c ≡ Some t → s ≡ t
same_spelling f c s t p q = cc

pub lay_within : (f : ℕ → Option (List ℕ)) (cs was now s : List ℕ) (place i at : ℕ) → i < length cs → LeftToLay f cs was place now i at → f (get_or cs i 0) ≡ Some s → at + length s ≤ length was
lay_within f cs was now s place i at h l e =
    let p = lay_next f cs was now place i at h l in
    omega (arith, l.fits, l.ends, ap length p.joined ∙ length-append p.first p.others, ap length (same_spelling f (get_or cs i 0) s p.first e p.spells))

pub lay_more : (f : ℕ → Option (List ℕ)) (cs was now s next : List ℕ) (place i at end : ℕ) → i < length cs → length now ≡ length was → LeftToLay f cs was place now i at → f (get_or cs i 0) ≡ Some s → (at + length s ≤ length now → next ≡ laid now at s) → end ≡ min (at + length s) (length now) → LeftToLay f cs was place next (i + 1) end
lay_more f cs was now s next place i at end h same l e lays ends =
    let p = lay_next f cs was now place i at h l in
    let left : l.left ≡ s ++ p.others = p.joined ∙ ap (λ x. x ++ p.others) (sym (same_spelling f (get_or cs i 0) s p.first e p.spells)) in
    let within : at + length s ≤ length now = omega (arith, same, lay_within f cs was now s place i at h l e) in
    let behind : end ≡ at + length s = omega (arith, ends, within) in
    record {
      whole = l.whole;
      spelled = l.spelled;
      fits = l.fits;
      left = p.others;
      ahead = p.spelled;
      ends = omega (arith, behind, l.ends, ap length left ∙ length-append s p.others);
      completes = ap (λ xs. laid xs end p.others) (lays within) ∙ ap (λ n. laid (laid now at s) n p.others) behind ∙ laid-laid now s p.others at within ∙ ap (laid now at) (sym left) ∙ l.completes;
    }

pub lay_done : (f : ℕ → Option (List ℕ)) (cs was now : List ℕ) (place i at : ℕ) → length cs ≤ i → LeftToLay f cs was place now i at → LaidTo f cs was place now at
lay_done f cs was now place i at h l =
    let rest : Some [] ≡ Some l.left = subst (λ zs. Spelled f zs l.left) (drop_all i cs h) l.ahead in
    let none : l.left ≡ [] = cc in
    record {
      bytes = l.whole;
      spelled = l.spelled;
      ends = omega (arith, l.ends, ap length none);
      fits = omega (arith, l.ends, l.fits, ap length none);
      holds = sym (laid_nothing now at) ∙ ap (laid now at) (sym none) ∙ l.completes;
    }

any_permitted : (cs : List ℕ) → AllByRecursion (λ c. permits Any c ≡ true) cs
any_permitted [] = tt
any_permitted (c ∷ cs) = (refl, any_permitted cs)

-- the bytes that spell the characters, where their length is known
pub measured_spells : (f : ℕ → Option (List ℕ)) (cs bytes : List ℕ) (r : Result ℕ CharacterFault) → OnlyMeasure f Any cs r → Spelled f cs bytes → Ok (length bytes) ≡ r
measured_spells f cs bytes r only s = only (Ok (length bytes)) (bytes, record { spelled = s; permitted = any_permitted cs }, refl)

pub unlaid_none : (f : ℕ → Option (List ℕ)) (cs was : List ℕ) (place : ℕ) (r : Result ℕ CharacterFault) → OnlyMeasure f Any cs r → None ≡ result_ok r → Unlaid f cs was place was
unlaid_none f cs was place r only none =
    record { unfit = λ bytes s. (let e = ap result_ok (measured_spells f cs bytes r only s) in let z : ◌≡◌ {A = ℕ} 0 1 = cc in absurd (omega arith)); holds = refl }
