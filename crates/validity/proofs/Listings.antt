-- A text lists zones exactly when it is their listing.
use Rattle.std.proofs.Common.{◌≡◌, ℕ, suc, ◌+◌, ◌*◌, ◌/◌, ◌%◌, ◌^◌, ◌<◌, ◌≤◌, Bool, true, false, cond, eqb, List, [], ◌∷◌, ◌++◌, Some, None, Option, sym, refl, ap, ◌∙◌, subst, ⊎_elim, pow-suc, arith}
use Rattle.std.proofs.lemmas.List.{append_assoc}
use Rattle.std.proofs.lemmas.Bool.{cond-true, cond-false, eq-eqb, ne_eqb, cases_eq}
use Rattle.std.proofs.lemmas.Bool.Decides.{nat_tests}
use Rattle.std.specs.List.{AllByRecursion}
use Rattle.validity.specs.declared.groups.Class.{Class}
use Rattle.validity.specs.declared.groups.Class.TheVariants.{Digit, Blank, Other}
use Rattle.octets.specs.Digits.{digits}
use Rattle.validity.specs.Listing.{class_of, prepend, when_digit, when_blank, groups}
use Rattle.validity.specs.ZoneLaws.{further}
use Rattle.validity.proofs.Digiting.{digits_push}

-- some zones behind the first, where an answer has one
prepend_some : (z : ℕ) (o : Option (List ℕ)) (zs : List ℕ) → prepend z o ≡ Some zs → (ys : List ℕ) × (o ≡ Some ys) × (zs ≡ z ∷ ys)
prepend_some z None zs h = let e : ◌≡◌ {A = ℕ} 0 1 = cc in absurd (omega arith)
prepend_some z (Some ys) zs h = let e : z ∷ ys ≡ zs = cc in (ys, refl, sym e)

digit_some : (y : Class) (k : ℕ → Option (List ℕ)) (zs : List ℕ) → when_digit y k ≡ Some zs → (x : ℕ) × (y ≡ Digit x) × (k x ≡ Some zs)
digit_some (Digit x) k zs h = (x, refl, h)
digit_some Blank k zs h = let e : ◌≡◌ {A = ℕ} 0 1 = cc in absurd (omega arith)
digit_some Other k zs h = let e : ◌≡◌ {A = ℕ} 0 1 = cc in absurd (omega arith)

blank_some : (y : Class) (o : Option (List ℕ)) (zs : List ℕ) → when_blank y o ≡ Some zs → (y ≡ Blank) × (o ≡ Some zs)
blank_some (Digit x) o zs h = let e : ◌≡◌ {A = ℕ} 0 1 = cc in absurd (omega arith)
blank_some Blank o zs h = (refl, h)
blank_some Other o zs h = let e : ◌≡◌ {A = ℕ} 0 1 = cc in absurd (omega arith)

class_digit : (c x : ℕ) → class_of c ≡ Digit x → (c ≡ 48 + x) × (x < 10)
class_digit c x h = (grind (arith, nat_tests), grind (arith, nat_tests))

class_blank : (c : ℕ) → class_of c ≡ Blank → c ≡ 32
class_blank c h = grind (arith, nat_tests)

digit_class : (x : ℕ) → x < 10 → class_of (48 + x) ≡ Digit x
digit_class x h = grind (arith, nat_tests)

-- n digits of a group that write v, and then the text cs, are a first zone and further ones
pub record Wrote (n v : ℕ) (cs zs : List ℕ) : Type 0 where
  pub first : ℕ
  pub others : List ℕ
  pub is : zs ≡ first ∷ others
  pub below : AllByRecursion (λ z. z < 1000) zs
  pub text : digits n v ++ cs ≡ digits 3 first ++ further others

abbrev Told : Bool → ℕ → ℕ → List ℕ → List ℕ → Type 0
Told true n v cs zs = AllByRecursion (λ z. z < 1000) zs × (cs ≡ further zs)
Told false n v cs zs = Wrote n v cs zs

joined_digit : (n v x : ℕ) (c : ℕ) (cs : List ℕ) → c ≡ 48 + x → x < 10 → digits n v ++ (c ∷ cs) ≡ digits (suc n) (v * 10 + x) ++ cs
joined_digit n v x c cs e h =
    ap (λ y. digits n v ++ (y ∷ cs)) e ∙ sym (append_assoc (digits n v) ((48 + x) ∷ []) cs) ∙ ap (λ ys. ys ++ cs) (sym (digits_push n v x h))

whole_group : (n v x : ℕ) (c : ℕ) (cs ys zs : List ℕ) → n ≡ 2 → v < 10 ^ n → c ≡ 48 + x → x < 10 → zs ≡ (v * 10 + x) ∷ ys → AllByRecursion (λ z. z < 1000) ys × (cs ≡ further ys)
    → Wrote n v (c ∷ cs) zs
whole_group n v x c cs ys zs e h k l z (a, t) =
    let p : 10 ^ n ≡ 100 = ap (λ i. 10 ^ i) e in
    let below : v * 10 + x < 1000 = omega arith in
    record {
      first = v * 10 + x;
      others = ys;
      is = z;
      below = subst (AllByRecursion (λ y. y < 1000)) (sym z) (below, a);
      text = joined_digit n v x c cs k l ∙ ap (λ i. digits (suc i) (v * 10 + x) ++ cs) e ∙ ap (λ s. digits 3 (v * 10 + x) ++ s) t;
    }

part_group : (n v x : ℕ) (c : ℕ) (cs zs : List ℕ) → c ≡ 48 + x → x < 10 → Wrote (n + 1) (v * 10 + x) cs zs → Wrote n v (c ∷ cs) zs
part_group n v x c cs zs k l w =
    let e : suc n ≡ n + 1 = omega arith in
    record {
      first = w.first;
      others = w.others;
      is = w.is;
      below = w.below;
      text = joined_digit n v x c cs k l ∙ ap (λ i. digits i (v * 10 + x) ++ cs) e ∙ w.text;
    }

behind_blank : (c : ℕ) (cs zs : List ℕ) → c ≡ 32 → Wrote 0 0 cs zs → AllByRecursion (λ z. z < 1000) zs × ((c ∷ cs) ≡ further zs)
behind_blank c cs zs e w = (w.below, ap (λ y. y ∷ cs) e ∙ ap (λ s. 32 ∷ s) w.text ∙ ap further (sym w.is))

-- what the reader lists, the text is the listing of
told : (gap : Bool) (n v : ℕ) (cs zs : List ℕ) → n ≤ 2 → v < 10 ^ n → groups gap n v cs ≡ Some zs → Told gap n v cs zs
unfolding groups
told true n v [] zs f h e = let z : [] ≡ zs = cc in subst (Told true n v []) z (tt, refl)
told false n v [] zs f h e = let z : ◌≡◌ {A = ℕ} 0 1 = cc in absurd (omega arith)
told true n v (c ∷ cs) zs f h e =
    let b = blank_some (class_of c) (groups false 0 0 cs) zs e in
    behind_blank c cs zs (class_blank c b.0) (told false 0 0 cs zs (omega arith) (omega arith) b.1)
told false n v (c ∷ cs) zs f h e =
    let d = digit_some (class_of c) (λ x. cond (eqb n 2) (prepend (v * 10 + x) (groups true 0 0 cs)) (groups false (n + 1) (v * 10 + x) cs)) zs e in
    let x : ℕ = d.0 in
    let k = class_digit c x d.1 in
    ⊎_elim
    (λ two.
    let p = prepend_some (v * 10 + x) (groups true 0 0 cs) zs (sym (cond-true (eqb n 2) (prepend (v * 10 + x) (groups true 0 0 cs)) (groups false (n + 1) (v * 10 + x) cs) (eq-eqb n 2 two)) ∙ d.2) in
    whole_group n v x c cs p.0 zs two h k.0 k.1 p.2 (told true 0 0 cs p.0 (omega arith) (omega arith) p.1))
    (λ more.
    let q : 10 ^ (n + 1) ≡ 10 ^ suc n = ap (λ i. 10 ^ i) (omega arith) in
    let r : 10 ^ suc n ≡ 10 ^ n * 10 = pow-suc 10 n in
    let s : v * 10 + x < 10 ^ (n + 1) = omega (arith, k.1) in
    part_group n v x c cs zs k.0 k.1
    (told false (n + 1) (v * 10 + x) cs zs (omega arith) s (sym (cond-false (eqb n 2) (prepend (v * 10 + x) (groups true 0 0 cs)) (groups false (n + 1) (v * 10 + x) cs) (ne_eqb n 2 more)) ∙ d.2)))
    (cases_eq n 2)

pub groups_told : (cs zs : List ℕ) → groups false 0 0 cs ≡ Some zs → Wrote 0 0 cs zs
groups_told cs zs e = told false 0 0 cs zs (omega arith) (omega arith) e

-- and a listing is read as what it lists
three : (z : ℕ) (rest : List ℕ) → z < 1000 → groups false 0 0 (digits 3 z ++ rest) ≡ prepend z (groups true 0 0 rest)
unfolding groups
three z rest h =
    let a : ℕ = z / 10 / 10 % 10 in
    let b : ℕ = z / 10 % 10 in
    let d : ℕ = z % 10 in
    let e : ((0 * 10 + a) * 10 + b) * 10 + d ≡ z = omega arith in
    ap (λ y. when_digit y (λ x. groups false 1 (0 * 10 + x) ((48 + b) ∷ (48 + d) ∷ rest))) (digit_class a (omega arith))
    ∙ ap (λ y. when_digit y (λ x. groups false 2 ((0 * 10 + a) * 10 + x) ((48 + d) ∷ rest))) (digit_class b (omega arith))
    ∙ ap (λ y. when_digit y (λ x. prepend (((0 * 10 + a) * 10 + b) * 10 + x) (groups true 0 0 rest))) (digit_class d (omega arith))
    ∙ ap (λ y. prepend y (groups true 0 0 rest)) e

behind : (zs : List ℕ) → AllByRecursion (λ z. z < 1000) zs → groups true 0 0 (further zs) ≡ Some zs
unfolding groups
behind [] h = refl
behind (z ∷ zs) (l, h) = three z (further zs) l ∙ ap (prepend z) (behind zs h)

pub groups_listing : (z : ℕ) (zs : List ℕ) → z < 1000 → AllByRecursion (λ y. y < 1000) zs → groups false 0 0 (digits 3 z ++ further zs) ≡ Some (z ∷ zs)
groups_listing z zs l h = three z (further zs) l ∙ ap (prepend z) (behind zs h)
