-- Reading a list of zones from left to right, in any code.
use Rattle.std.proofs.Common.{◌≡◌, ℕ, suc, ◌+◌, ◌-◌, ◌*◌, ◌^◌, ◌<◌, ◌≤◌, Bool, true, false, cond, ◌||◌, eqb, List, [], ◌∷◌, ◌++◌, length, take, drop, Some, None, Option, sym, refl, ap, ◌∙◌, subst, pow-suc, arith}
use Rattle.std.proofs.lemmas.List.{take-append-drop, take_rest}
use Rattle.std.proofs.lemmas.Bool.{cond-true, cond-false, eq-eqb, ne_eqb, true≢false, false≢true}
use Rattle.std.proofs.lemmas.Bool.Decides.{nat_tests}
use Rattle.text_code.specs.declared.codes.Decoded.{Decoded}
use Rattle.text_code.specs.Spellings.{Begins, NoneBegins, OneToFour, PrefixFree, Spelled}
use Rattle.text_code.proofs.Decoding.{spelled_parts, spelled_cons}
use Rattle.text_code.proofs.Unique.{begins, read_first, unique_decoding}
use Rattle.validity.specs.declared.groups.Class.{Class}
use Rattle.validity.specs.declared.groups.Class.TheVariants.{Digit, Blank, Other}
use Rattle.validity.specs.Listing.{class_of, prepend, when_digit, when_blank, groups, ListedIn}
use Rattle.validity.specs.Zoning.{words_of, among}
use Rattle.validity.proofs.Packing.{words_same}

-- zones in front of those to come
abbrev pub prepend_all : List ℕ → Option (List ℕ) → Option (List ℕ)
prepend_all [] o = o
prepend_all (z ∷ zs) o = prepend z (prepend_all zs o)

prepend_all_push : (zs : List ℕ) (z : ℕ) (o : Option (List ℕ)) → prepend_all (zs ++ z ∷ []) o ≡ prepend_all zs (prepend z o)
prepend_all_push [] z o = refl
prepend_all_push (y ∷ zs) z o = ap (prepend y) (prepend_all_push zs z o)

prepend_all_none : (zs : List ℕ) → prepend_all zs None ≡ None
prepend_all_none [] = refl
prepend_all_none (z ∷ zs) = ap (prepend z) (prepend_all_none zs)

prepend_all_some : (zs : List ℕ) → prepend_all zs (Some []) ≡ Some zs
prepend_all_some [] = refl
prepend_all_some (z ∷ zs) = ap (prepend z) (prepend_all_some zs)

among_push : (zs : List ℕ) (z y : ℕ) → (among zs y || eqb y z) ≡ among (zs ++ z ∷ []) y
among_push [] z y = grind (arith, nat_tests)
among_push (x ∷ zs) z y = or_three (eqb y x) (among zs y) (eqb y z) ∙ ap (λ t. eqb y x || t) (among_push zs z y)
  where
    or_three : (a b d : Bool) → ((a || b) || d) ≡ (a || (b || d))
    or_three true b d = refl
    or_three false b d = refl

-- The bytes before the rest are read: their characters list the zones seen, which are marked, and n digits of a group, which write v.
-- So each text of the bytes ends in a text of the rest, which lists the other zones, and each text of the rest ends such a text.
-- Where gap holds a group is whole.
pub record ScannedTo (f : ℕ → Option (List ℕ)) (bytes rest : List ℕ) (n v : ℕ) (gap : Bool) (words : List ℕ) : Type 0 where
  pub few : n ≤ 2
  pub small : v < 10 ^ n
  pub seen : List ℕ
  pub marked : words ≡ words_of 16 (among seen)
  pub ends : (cs : List ℕ) → Spelled f cs bytes → (ds : List ℕ) × Spelled f ds rest × (groups false 0 0 cs ≡ prepend_all seen (groups gap n v ds))
  pub begun : (ds : List ℕ) → Spelled f ds rest → (cs : List ℕ) × Spelled f cs bytes × (groups false 0 0 cs ≡ prepend_all seen (groups gap n v ds))

pub scanned_none : (f : ℕ → Option (List ℕ)) (bytes words : List ℕ) → words ≡ words_of 16 (λ _. false) → ScannedTo f bytes bytes 0 0 false words
scanned_none f bytes words e =
    record { few = omega arith; small = omega arith; seen = []; marked = e; ends = λ cs t. (cs, t, refl); begun = λ cs t. (cs, t, refl) }

pub scanned_as : (f : ℕ → Option (List ℕ)) (bytes rest : List ℕ) (n v m w : ℕ) (gap due : Bool) (words marks : List ℕ)
    → m ≡ n → w ≡ v → due ≡ gap → marks ≡ words → ScannedTo f bytes rest n v gap words → ScannedTo f bytes rest m w due marks
scanned_as f bytes rest n v m w gap due words marks p q r t s =
    subst (λ i. ScannedTo f bytes rest i w due marks) (sym p)
    (subst (λ i. ScannedTo f bytes rest n i due marks) (sym q)
    (subst (λ b. ScannedTo f bytes rest n v b marks) (sym r) (subst (λ ws. ScannedTo f bytes rest n v gap ws) (sym t) s)))

-- what reading one character more does
record Step (seen : List ℕ) (n v : ℕ) (gap : Bool) (c : ℕ) (after : List ℕ) (m w : ℕ) (due : Bool) : Type 0 where
  few : m ≤ 2
  small : w < 10 ^ m
  goes : (ds : List ℕ) → prepend_all seen (groups gap n v (c ∷ ds)) ≡ prepend_all after (groups due m w ds)

-- what is left behind the character that was read
abbrev pub behind : List ℕ → Decoded → List ℕ
behind rest d = take (length rest - d.length) (drop d.length rest)

advance : (f : ℕ → Option (List ℕ)) (bytes rest : List ℕ) (n v : ℕ) (gap : Bool) (words : List ℕ) (d : Decoded) (after : List ℕ) (m w : ℕ) (due : Bool) (marks : List ℕ) → OneToFour f → PrefixFree f
    → (s : ScannedTo f bytes rest n v gap words) → Begins f d.character d.length rest
    → Step s.seen n v gap d.character after m w due → marks ≡ words_of 16 (among after)
    → ScannedTo f bytes (behind rest d) m w due marks
advance f bytes rest n v gap words d after m w due marks short apart s b t e =
    subst (λ zs. ScannedTo f bytes zs m w due marks) (sym (take_rest rest d.length))
    (record {
      few = t.few;
      small = t.small;
      seen = after;
      marked = e;
      ends =
          λ cs u.
          let q = s.ends cs u in
          let x = read_first f q.0 rest d.character d.length short apart q.1 b in
          (x.others, x.spelled, q.2 ∙ ap (λ ds. prepend_all s.seen (groups gap n v ds)) x.parts ∙ t.goes x.others);
      begun =
          λ ds u.
          let x = spelled_cons f d.character ds (take d.length rest) (drop d.length rest) b.spells u in
          let q = s.begun (d.character ∷ ds) (subst (Spelled f (d.character ∷ ds)) (take-append-drop d.length rest) x) in
          (q.0, q.1, q.2 ∙ t.goes ds);
    })

-- a digit is below 10
pub digit_below : (c x : ℕ) → class_of c ≡ Digit x → x < 10
digit_below c x h = grind (arith, nat_tests)

pub scanned_digit : (f : ℕ → Option (List ℕ)) (bytes rest : List ℕ) (n v x : ℕ) (gap : Bool) (words : List ℕ) (d : Decoded) → OneToFour f → PrefixFree f
    → ScannedTo f bytes rest n v gap words → Begins f d.character d.length rest
    → gap ≡ false → n < 2 → Digit x ≡ class_of d.character → ScannedTo f bytes (behind rest d) (n + 1) (v * 10 + x) gap words
unfolding groups
scanned_digit f bytes rest n v x true words d short apart s r g h k = absurd (true≢false g)
scanned_digit f bytes rest n v x false words d short apart s r g h k =
    let p : 10 ^ suc n ≡ 10 ^ n * 10 = pow-suc 10 n in
    let q : 10 ^ (n + 1) ≡ 10 ^ suc n = ap (λ i. 10 ^ i) (omega arith) in
    advance f bytes rest n v false words d s.seen (n + 1) (v * 10 + x) false words short apart s r
    (record {
      few = omega arith;
      small = omega (arith, s.small, digit_below d.character x (sym k));
      goes = λ ds. ap (prepend_all s.seen)
          (ap (λ y. when_digit y (λ e. cond (eqb n 2) (prepend (v * 10 + e) (groups true 0 0 ds)) (groups false (n + 1) (v * 10 + e) ds))) (sym k)
          ∙ cond-false (eqb n 2) (prepend (v * 10 + x) (groups true 0 0 ds)) (groups false (n + 1) (v * 10 + x) ds) (ne_eqb n 2 (λ e. omega arith)));
    }) s.marked

-- behind a whole group its digits do not matter
behind_group : (n v : ℕ) (ds : List ℕ) → groups true 0 0 ds ≡ groups true n v ds
unfolding groups
behind_group n v [] = refl
behind_group n v (c ∷ ds) = refl

pub scanned_third : (f : ℕ → Option (List ℕ)) (bytes rest : List ℕ) (n v x : ℕ) (gap : Bool) (words marks : List ℕ) (d : Decoded) → OneToFour f → PrefixFree f
    → ScannedTo f bytes rest n v gap words → Begins f d.character d.length rest
    → gap ≡ false → n ≡ 2 → Digit x ≡ class_of d.character
    → ((t : ℕ → Bool) → words ≡ words_of 16 t → marks ≡ words_of 16 (λ z. t z || eqb z (v * 10 + x)))
    → ScannedTo f bytes (behind rest d) n v true marks
unfolding groups
scanned_third f bytes rest n v x true words marks d short apart s r g h k m = absurd (true≢false g)
scanned_third f bytes rest n v x false words marks d short apart s r g h k m =
    advance f bytes rest n v false words d (s.seen ++ (v * 10 + x) ∷ []) n v true marks short apart s r
    (record {
      few = s.few;
      small = s.small;
      goes = λ ds. ap (prepend_all s.seen)
          (ap (λ y. when_digit y (λ e. cond (eqb n 2) (prepend (v * 10 + e) (groups true 0 0 ds)) (groups false (n + 1) (v * 10 + e) ds))) (sym k)
          ∙ cond-true (eqb n 2) (prepend (v * 10 + x) (groups true 0 0 ds)) (groups false (n + 1) (v * 10 + x) ds) (eq-eqb n 2 h))
          ∙ sym (prepend_all_push s.seen (v * 10 + x) (groups true 0 0 ds))
          ∙ ap (prepend_all (s.seen ++ (v * 10 + x) ∷ [])) (behind_group n v ds);
    }) (m (among s.seen) s.marked ∙ words_same 16 (λ z. among s.seen z || eqb z (v * 10 + x)) (among (s.seen ++ (v * 10 + x) ∷ [])) (among_push s.seen (v * 10 + x)))

pub scanned_blank : (f : ℕ → Option (List ℕ)) (bytes rest : List ℕ) (n v : ℕ) (gap : Bool) (words : List ℕ) (d : Decoded) → OneToFour f → PrefixFree f
    → ScannedTo f bytes rest n v gap words → Begins f d.character d.length rest
    → gap ≡ true → Blank ≡ class_of d.character → ScannedTo f bytes (behind rest d) 0 0 false words
unfolding groups
scanned_blank f bytes rest n v false words d short apart s r g k = absurd (false≢true g)
scanned_blank f bytes rest n v true words d short apart s r g k =
    advance f bytes rest n v true words d s.seen 0 0 false words short apart s r
    (record {
      few = omega arith;
      small = omega arith;
      goes = λ ds. ap (prepend_all s.seen) (ap (λ y. when_blank y (groups false 0 0 ds)) (sym k));
    }) s.marked

unspelled : (f : ℕ → Option (List ℕ)) (bytes cs : List ℕ) → 0 < length bytes → NoneBegins f bytes → Spelled f cs bytes → ⊥
unspelled f bytes [] h none s = let e : [] ≡ bytes = cc in omega (arith, ap length e)
unspelled f bytes (c ∷ cs) h none s =
    let p = spelled_parts f c cs bytes s in none c (length p.first) (begins f c p.first p.others bytes p.spells p.joined)

-- where no character is spelled, no text has these bytes
pub none_unspelled : (f : ℕ → Option (List ℕ)) (bytes rest : List ℕ) (n v : ℕ) (gap : Bool) (words : List ℕ)
    → ScannedTo f bytes rest n v gap words → 0 < length rest → NoneBegins f rest → ListedIn f bytes None
none_unspelled f bytes rest n v gap words s some none cs t =
    let q = s.ends cs t in absurd (unspelled f rest q.0 some none q.1)

-- whether a character goes on: a blank behind a whole group, else a digit
abbrev pub fits : Bool → Class → Bool
fits true (Digit x) = false
fits true Blank = true
fits true Other = false
fits false (Digit x) = true
fits false Blank = false
fits false Other = false

unfit : (n v c : ℕ) (gap : Bool) (y : Class) (rest : List ℕ) → y ≡ class_of c → fits gap y ≡ false → groups gap n v (c ∷ rest) ≡ None
unfolding groups
unfit n v c true (Digit x) rest k h = ap (λ y. when_blank y (groups false 0 0 rest)) (sym k)
unfit n v c true Blank rest k h = absurd (true≢false h)
unfit n v c true Other rest k h = ap (λ y. when_blank y (groups false 0 0 rest)) (sym k)
unfit n v c false (Digit x) rest k h = absurd (true≢false h)
unfit n v c false Blank rest k h =
    ap (λ y. when_digit y (λ e. cond (eqb n 2) (prepend (v * 10 + e) (groups true 0 0 rest)) (groups false (n + 1) (v * 10 + e) rest))) (sym k)
unfit n v c false Other rest k h =
    ap (λ y. when_digit y (λ e. cond (eqb n 2) (prepend (v * 10 + e) (groups true 0 0 rest)) (groups false (n + 1) (v * 10 + e) rest))) (sym k)

-- where the next character does not fit, no text of these bytes lists zones
pub none_unfit : (f : ℕ → Option (List ℕ)) (bytes rest : List ℕ) (n v : ℕ) (gap : Bool) (words : List ℕ) (d : Decoded) → OneToFour f → PrefixFree f
    → ScannedTo f bytes rest n v gap words → Begins f d.character d.length rest
    → (y : Class) → y ≡ class_of d.character → fits gap y ≡ false → ListedIn f bytes None
none_unfit f bytes rest n v gap words d short apart s b y k h cs t =
    let q = s.ends cs t in
    let x = read_first f q.0 rest d.character d.length short apart q.1 b in
    q.2 ∙ ap (prepend_all s.seen) (ap (groups gap n v) x.parts ∙ unfit n v d.character gap y x.others k h) ∙ prepend_all_none s.seen

pub none_unended : (f : ℕ → Option (List ℕ)) (bytes rest : List ℕ) (n v : ℕ) (gap : Bool) (words : List ℕ) → OneToFour f → PrefixFree f
    → ScannedTo f bytes rest n v gap words → length rest ≡ 0 → gap ≡ false → ListedIn f bytes None
unfolding groups
none_unended f bytes (b ∷ rest) n v gap words short apart s h g cs t = absurd (omega arith)
none_unended f bytes [] n v true words short apart s h g cs t = absurd (true≢false g)
none_unended f bytes [] n v false words short apart s h g cs t =
    let q = s.ends cs t in
    q.2 ∙ ap (λ ds. prepend_all s.seen (groups false n v ds)) (unique_decoding f short apart q.0 [] [] q.1 refl) ∙ prepend_all_none s.seen

pub listed_all : (f : ℕ → Option (List ℕ)) (bytes rest : List ℕ) (n v : ℕ) (gap : Bool) (words : List ℕ)
    → ScannedTo f bytes rest n v gap words → length rest ≡ 0 → gap ≡ true → ListedIn f bytes (Some words)
unfolding groups
listed_all f bytes (b ∷ rest) n v gap words s h g = absurd (omega arith)
listed_all f bytes [] n v false words s h g = absurd (false≢true g)
listed_all f bytes [] n v true words s h g = let q = s.begun [] refl in (q.0, s.seen, q.1, q.2 ∙ prepend_all_some s.seen, s.marked)
