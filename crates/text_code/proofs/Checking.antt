-- Checking a text from left to right, in any code.
use Rattle.std.proofs.Common.{◌≡◌, ℕ, ◌+◌, ◌-◌, ◌<◌, ◌≤◌, true, false, ◌⊎◌, List, [], ◌∷◌, ◌++◌, length, take, drop, Some, None, Ok, Err, Option, Result, sym, refl, ap, ◌∙◌, subst, inl, inr, ⊎_elim, arith, take-add}
use Rattle.std.proofs.ByRecursion.{All-drop, All-push}
use Rattle.std.proofs.lemmas.List.{append_assoc, append-nil, drop_at, length-append, length-drop, length_push, length-take-le, take_all, take-append-drop, take_at, take_rest}
use Rattle.std.proofs.lemmas.Bool.{both_ways, cases_order}
use Rattle.std.proofs.lemmas.Bool.Decides.{nat_tests}
use Rattle.std.specs.List.{AllByRecursion}
use Rattle.text_code.specs.declared.codes.Decoded.{Decoded}
use Rattle.text_code.specs.declared.characters.CharacterFault.{CharacterFault}
use Rattle.text_code.specs.declared.characters.Permitted.{Permitted}
use Rattle.text_code.specs.Characters.{permits}
use Rattle.text_code.specs.Reading.{Front, Text, Faulty, Checked, OnlyAnswer, permitted_front}
use Rattle.text_code.specs.Spellings.{Begins, NoneBegins, OneToFour, PrefixFree, Spelled, UniqueDecoding}
use Rattle.text_code.proofs.Decoding.{spelled_parts, spelled_one, spelled-append, begins_some}
use Rattle.text_code.proofs.Unique.{begins, begins_same, spelled_rest, unique_decoding}

-- what stands before the rest is a text of n permitted characters
pub record CheckedTo (f : ℕ → Option (List ℕ)) (p : Permitted) (bytes rest : List ℕ) (n : ℕ) : Type 0 where
  pub before : List ℕ
  pub joined : bytes ≡ before ++ rest
  pub counted : n + length rest ≤ length bytes
  pub characters : List ℕ
  pub number : length characters ≡ n
  pub text : Text f p characters before

pub checked_none : (f : ℕ → Option (List ℕ)) (p : Permitted) (bytes : List ℕ) → CheckedTo f p bytes bytes 0
checked_none f p bytes = record { before = []; joined = refl; counted = omega arith; characters = []; number = refl; text = record { spelled = refl; permitted = tt } }

what_read : (p : Permitted) (r : Option Decoded) (d : Decoded) → Some d ≡ permitted_front p r → (r ≡ Some d) × (permits p d.character ≡ true)
what_read p None d e = let z : ◌≡◌ {A = ℕ} 0 1 = cc in absurd (omega arith)
what_read p (Some x) d e = grind (arith, nat_tests)

-- a permitted character that was read is spelled there
begins_read : (f : ℕ → Option (List ℕ)) (p : Permitted) (rest : List ℕ) (r : Option Decoded) (d : Decoded) → Front f rest r → Some d ≡ permitted_front p r → Begins f d.character d.length rest
begins_read f p rest r d front e = subst (Front f rest) (what_read p r d e).0 front

-- and takes at least one byte
pub read_long : (f : ℕ → Option (List ℕ)) (p : Permitted) (rest : List ℕ) (r : Option Decoded) (d : Decoded) → OneToFour f → Front f rest r → Some d ≡ permitted_front p r → (1 ≤ d.length) × (d.length ≤ length rest)
read_long f p rest r d short front e =
    let b = begins_read f p rest r d front e in
    (begins_some f d.character d.length rest short b, b.within)

pub checked_more : (f : ℕ → Option (List ℕ)) (p : Permitted) (bytes rest : List ℕ) (n : ℕ) (r : Option Decoded) (d : Decoded) → OneToFour f → CheckedTo f p bytes rest n → Front f rest r → Some d ≡ permitted_front p r → CheckedTo f p bytes (take (length rest - d.length) (drop d.length rest)) (n + 1)
checked_more f p bytes rest n r d short l front e =
    let b = begins_read f p rest r d front e in
    let h = read_long f p rest r d short front e in
    let first = take d.length rest in
    subst (λ zs. CheckedTo f p bytes zs (n + 1)) (sym (take_rest rest d.length)) (record {
      before = l.before ++ first;
      joined = l.joined ∙ ap (λ zs. l.before ++ zs) (sym (take-append-drop d.length rest)) ∙ sym (append_assoc l.before first (drop d.length rest));
      counted = omega (arith, l.counted, h, length-drop d.length rest);
      characters = l.characters ++ d.character ∷ [];
      number = length_push l.characters d.character ∙ ap (λ m. m + 1) l.number;
      text = record {
        spelled = spelled-append f l.characters (d.character ∷ []) l.before first l.text.spelled (spelled_one f d.character first b.spells);
        permitted = All-push (λ c. permits p c ≡ true) l.characters d.character l.text.permitted (what_read p r d e).1;
      };
    })

pub checked_all : (f : ℕ → Option (List ℕ)) (p : Permitted) (bytes rest : List ℕ) (n : ℕ) → CheckedTo f p bytes rest n → length rest ≡ 0 → Checked f p bytes (Ok n)
checked_all f p bytes [] n l none = (l.characters, subst (Text f p l.characters) (sym (l.joined ∙ append-nil l.before)) l.text, l.number)
checked_all f p bytes (b ∷ rest) n l none = absurd (omega arith)

-- nothing that was read at the front of the rest is permitted
fault_of : (f : ℕ → Option (List ℕ)) (p : Permitted) (rest : List ℕ) (r : Option Decoded) → Front f rest r → None ≡ permitted_front p r → NoneBegins f rest ⊎ ((n : ℕ) × (k : ℕ) × Begins f n k rest × (permits p n ≡ false))
fault_of f p rest None front e = inl front
fault_of f p rest (Some d) front e = inr (d.character, d.length, front, grind (arith, nat_tests))

pub faulty_at : (f : ℕ → Option (List ℕ)) (p : Permitted) (bytes rest : List ℕ) (n : ℕ) (r : Option Decoded) → CheckedTo f p bytes rest n → 0 < length rest → Front f rest r → None ≡ permitted_front p r → Faulty f p bytes (length bytes - length rest)
faulty_at f p bytes rest n r l h front e =
    let long : length l.before ≡ length bytes - length rest = omega (arith, ap length l.joined ∙ length-append l.before rest) in
    let front_is : l.before ≡ take (length bytes - length rest) bytes = sym (take_at l.before rest (length l.before) refl) ∙ ap (take (length l.before)) (sym l.joined) ∙ ap (λ n. take n bytes) long in
    let rest_is : rest ≡ drop (length bytes - length rest) bytes = sym (drop_at l.before rest (length l.before) refl) ∙ ap (drop (length l.before)) (sym l.joined) ∙ ap (λ n. drop n bytes) long in
    record {
      within = omega (arith, ap length l.joined ∙ length-append l.before rest);
      before = (l.characters, subst (Text f p l.characters) front_is l.text);
      fault = subst (λ zs. NoneBegins f zs ⊎ ((n : ℕ) × (k : ℕ) × Begins f n k zs × (permits p n ≡ false))) rest_is (fault_of f p rest r front e);
    }

-- at a fault no permitted character stands
none_stands : (f : ℕ → Option (List ℕ)) (p : Permitted) (bytes : List ℕ) (place n k : ℕ) → PrefixFree f → Faulty f p bytes place → Begins f n k (drop place bytes) → permits p n ≡ true → ⊥
none_stands f p bytes place n k apart w b ok =
    ⊎_elim (λ none. none n k b)
    (λ x. both_ways (permits p n) (ap (permits p) (begins_same f n x.0 k x.1 (drop place bytes) apart b x.2).0 ∙ x.3) ok)
    w.fault

-- so no text of permitted characters goes on past it
next_stands : (f : ℕ → Option (List ℕ)) (p : Permitted) (bytes cs zs rest : List ℕ) (place : ℕ) → PrefixFree f → Faulty f p bytes place → 0 < length zs → drop place bytes ≡ zs ++ rest → Spelled f cs zs → AllByRecursion (λ c. permits p c ≡ true) cs → ⊥
next_stands f p bytes [] zs rest place apart w some at s ok = let e : [] ≡ zs = cc in omega (arith, ap length e)
next_stands f p bytes (c ∷ cs) zs rest place apart w some at s ok =
    let q = spelled_parts f c cs zs s in
    let e : drop place bytes ≡ q.first ++ (q.others ++ rest) = at ∙ ap (λ xs. xs ++ rest) q.joined ∙ append_assoc q.first q.others rest in
    none_stands f p bytes place c (length q.first) apart w (begins f c q.first (q.others ++ rest) (drop place bytes) q.spells e) ok.0

stuck : (f : ℕ → Option (List ℕ)) (p : Permitted) (bytes cs : List ℕ) (place end : ℕ) → OneToFour f → PrefixFree f → Faulty f p bytes place → Text f p cs (take end bytes) → place < end → end ≤ length bytes → ⊥
stuck f p bytes cs place end short apart w t past within =
    let front = w.before.0 in
    let zs = take (end - place) (drop place bytes) in
    let e : take end bytes ≡ take place bytes ++ zs = ap (λ i. take i bytes) (omega arith) ∙ take-add place (end - place) bytes in
    let r = spelled_rest f front cs (take place bytes) zs short apart w.before.1.spelled (subst (Spelled f cs) e t.spelled) in
    let left : drop (length front) cs ≡ r.others = ap (drop (length front)) r.parts ∙ drop_at front r.others (length front) refl in
    let long : length zs ≡ end - place = length-take-le (end - place) (drop place bytes) (omega (arith, length-drop place bytes)) in
    next_stands f p bytes r.others zs (drop (end - place) (drop place bytes)) place apart w (omega arith) (sym (take-append-drop (end - place) (drop place bytes))) r.spelled
    (subst (AllByRecursion (λ c. permits p c ≡ true)) left (All-drop (λ c. permits p c ≡ true) (length front) cs t.permitted))

whole : (f : ℕ → Option (List ℕ)) (p : Permitted) (bytes cs : List ℕ) → Text f p cs bytes → Text f p cs (take (length bytes) bytes)
whole f p bytes cs t = subst (Text f p cs) (sym (take_all (length bytes) bytes (omega arith))) t

pub only_answer : (f : ℕ → Option (List ℕ)) (p : Permitted) (bytes : List ℕ) (r : Result ℕ CharacterFault) → OneToFour f → PrefixFree f → Checked f p bytes r → OnlyAnswer f p bytes r
only_answer f p bytes (Ok n) short apart (cs, t, e) (Ok m) (ds, u, d) = ap Ok (sym d ∙ ap length (unique_decoding f short apart ds cs bytes u.spelled t.spelled) ∙ e)
only_answer f p bytes (Ok n) short apart (cs, t, e) (Err fault) w =
    absurd (stuck f p bytes cs fault.place (length bytes) short apart w (whole f p bytes cs t) w.within (omega arith))
only_answer f p bytes (Err fault) short apart w (Ok n) (cs, t, e) =
    absurd (stuck f p bytes cs fault.place (length bytes) short apart w (whole f p bytes cs t) w.within (omega arith))
only_answer f p bytes (Err fault) short apart w (Err other) v =
    ⊎_elim (λ h. ap (λ n. Err (record { place = n })) (sym h))
    (⊎_elim (λ h. absurd (stuck f p bytes v.before.0 fault.place other.place short apart w v.before.1 h (omega (arith, v.within))))
    (λ h. absurd (stuck f p bytes w.before.0 other.place fault.place short apart v w.before.1 h (omega (arith, w.within)))))
    (cases_order fault.place other.place)

-- an answer that is true, with what follows from the laws of the code
pub record Promised (f : ℕ → Option (List ℕ)) (p : Permitted) (bytes : List ℕ) (r : Result ℕ CharacterFault) : Type 0 where
  pub answer : Checked f p bytes r
  pub only : OnlyAnswer f p bytes r
  pub unique : UniqueDecoding f

pub promised : (f : ℕ → Option (List ℕ)) (p : Permitted) (bytes : List ℕ) (r : Result ℕ CharacterFault) → OneToFour f → PrefixFree f → Checked f p bytes r → Promised f p bytes r
promised f p bytes r short apart a = record { answer = a; only = only_answer f p bytes r short apart a; unique = unique_decoding f short apart }
