-- Spelling a list of characters from left to right, in any code.
use Rattle.std.proofs.Common.{◌≡◌, ℕ, zero, suc, ◌+◌, ◌*◌, ◌<◌, ◌≤◌, Bool, true, false, cond, ◌⊎◌, List, [], ◌∷◌, ◌++◌, length, get_or, take, Some, None, Ok, Err, Option, Result, sym, refl, ap, ◌∙◌, subst, inl, inr, ⊎_elim, arith}
use Rattle.std.proofs.ByRecursion.{All-get_or, All-push}
use Rattle.std.proofs.lemmas.List.{get_or-take, length-append, length-take-le, take_all, take_more}
use Rattle.std.proofs.lemmas.Bool.{both_ways, cases_order}
use Rattle.std.specs.Option.{option_map}
use Rattle.text_code.specs.declared.characters.CharacterFault.{CharacterFault}
use Rattle.text_code.specs.declared.characters.Permitted.{Permitted}
use Rattle.text_code.specs.Characters.{permits}
use Rattle.text_code.specs.Reading.{Text}
use Rattle.text_code.specs.Spellings.{OneToFour, Spelled}
use Rattle.text_code.specs.Writing.{Unwritable, Measured, OnlyMeasure, permitted_length}
use Rattle.text_code.proofs.Decoding.{spelled-append, spelled_one, spelled_parts}

-- the first i characters are permitted and spelled by n bytes
pub record MeasuredTo (f : ℕ → Option (List ℕ)) (p : Permitted) (cs : List ℕ) (i n : ℕ) : Type 0 where
  pub bound : n ≤ 4 * i
  pub bytes : List ℕ
  pub long : length bytes ≡ n
  pub text : Text f p (take i cs) bytes

pub measured_none : (f : ℕ → Option (List ℕ)) (p : Permitted) (cs : List ℕ) → MeasuredTo f p cs 0 0
measured_none f p cs = record { bound = omega arith; bytes = []; long = refl; text = record { spelled = refl; permitted = tt } }

-- the bytes behind a length that is told
known : (o : Option (List ℕ)) (ok : Bool) (n : ℕ) → Some n ≡ cond ok (option_map length o) None → (s : List ℕ) × (o ≡ Some s) × (length s ≡ n) × (ok ≡ true)
known None true n e = let z : ◌≡◌ {A = ℕ} 0 1 = cc in absurd (omega arith)
known (Some s) true n e = (s, refl, cc, refl)
known o false n e = let z : ◌≡◌ {A = ℕ} 0 1 = cc in absurd (omega arith)

pub length_bound : (f : ℕ → Option (List ℕ)) (p : Permitted) (c n : ℕ) → OneToFour f → Some n ≡ permitted_length f p c → n ≤ 4
length_bound f p c n short e = let k = known (f c) (permits p c) n e in omega (arith, k.2, short c k.0 k.1)

pub measured_more : (f : ℕ → Option (List ℕ)) (p : Permitted) (cs : List ℕ) (i n more : ℕ) → OneToFour f → i < length cs → MeasuredTo f p cs i n → Some more ≡ permitted_length f p (get_or cs i 0) → MeasuredTo f p cs (i + 1) (n + more)
measured_more f p cs i n more short h l e =
    let c = get_or cs i 0 in
    let k = known (f c) (permits p c) more e in
    let s = k.0 in
    record {
      bound = omega (arith, l.bound, length_bound f p c more short e);
      bytes = l.bytes ++ s;
      long = length-append l.bytes s ∙ ap (λ m. m + length s) l.long ∙ ap (λ m. n + m) k.2;
      text = subst (λ zs. Text f p zs (l.bytes ++ s)) (sym (take_more cs i 0 h)) (record {
        spelled = spelled-append f (take i cs) (c ∷ []) l.bytes s l.text.spelled (spelled_one f c s k.1);
        permitted = All-push (λ c. permits p c ≡ true) (take i cs) c l.text.permitted k.3;
      });
    }

pub measured_all : (f : ℕ → Option (List ℕ)) (p : Permitted) (cs : List ℕ) (i n : ℕ) → MeasuredTo f p cs i n → length cs ≤ i → Measured f p cs (Ok n)
measured_all f p cs i n l end = (l.bytes, subst (λ zs. Text f p zs l.bytes) (take_all i cs end) l.text, l.long)

-- each character of a spelled list has a spelling
pub spelled_at : (f : ℕ → Option (List ℕ)) (cs bytes : List ℕ) (i : ℕ) → Spelled f cs bytes → i < length cs → (s : List ℕ) × (f (get_or cs i 0) ≡ Some s)
spelled_at f [] bytes i s h = absurd (omega arith)
spelled_at f (c ∷ cs) bytes zero s h = let p = spelled_parts f c cs bytes s in (p.first, p.spells)
spelled_at f (c ∷ cs) bytes (suc i) s h = let p = spelled_parts f c cs bytes s in spelled_at f cs p.others i p.spelled (omega arith)

stuck : (f : ℕ → Option (List ℕ)) (p : Permitted) (cs bytes : List ℕ) (i j : ℕ) → Unwritable f p cs i → Text f p (take j cs) bytes → i < j → j ≤ length cs → ⊥
stuck f p cs bytes i j w t past within =
    let long : i < length (take j cs) = omega (arith, length-take-le j cs within) in
    let same : get_or (take j cs) i 0 ≡ get_or cs i 0 = get_or-take j cs i 0 past in
    let s = spelled_at f (take j cs) bytes i t.spelled long in
    ⊎_elim (λ none. let z : ◌≡◌ {A = ℕ} 0 1 = cc (none, s.1, ap f same) in omega arith)
    (λ forbidden. both_ways (permits p (get_or cs i 0)) forbidden (ap (permits p) (sym same) ∙ All-get_or (λ c. permits p c ≡ true) (take j cs) i 0 long t.permitted))
    w.fault

whole : (f : ℕ → Option (List ℕ)) (p : Permitted) (cs bytes : List ℕ) → Text f p cs bytes → Text f p (take (length cs) cs) bytes
whole f p cs bytes t = subst (λ zs. Text f p zs bytes) (sym (take_all (length cs) cs (omega arith))) t

pub only_measure : (f : ℕ → Option (List ℕ)) (p : Permitted) (cs : List ℕ) (r : Result ℕ CharacterFault) → Measured f p cs r → OnlyMeasure f p cs r
only_measure f p cs (Ok n) (bytes, t, e) (Ok m) (others, u, d) =
    let same : Some others ≡ Some bytes = sym u.spelled ∙ t.spelled in
    let x : others ≡ bytes = cc in ap Ok (sym d ∙ ap length x ∙ e)
only_measure f p cs (Ok n) (bytes, t, e) (Err fault) w = absurd (stuck f p cs bytes fault.place (length cs) w (whole f p cs bytes t) w.within (omega arith))
only_measure f p cs (Err fault) w (Ok n) (bytes, t, e) = absurd (stuck f p cs bytes fault.place (length cs) w (whole f p cs bytes t) w.within (omega arith))
only_measure f p cs (Err fault) w (Err other) v =
    ⊎_elim (λ h. ap (λ n. Err (record { place = n })) (sym h))
    (⊎_elim (λ h. absurd (stuck f p cs v.before.0 fault.place other.place w v.before.1 h (omega (arith, v.within))))
    (λ h. absurd (stuck f p cs w.before.0 other.place fault.place v w.before.1 h (omega (arith, w.within)))))
    (cases_order fault.place other.place)

unknown : (o : Option (List ℕ)) (ok : Bool) → None ≡ cond ok (option_map length o) None → (o ≡ None) ⊎ (ok ≡ false)
unknown None ok e = inl refl
unknown (Some s) true e = let z : ◌≡◌ {A = ℕ} 0 1 = cc in absurd (omega arith)
unknown (Some s) false e = inr refl

pub unwritable_at : (f : ℕ → Option (List ℕ)) (p : Permitted) (cs : List ℕ) (i n : ℕ) → i < length cs → MeasuredTo f p cs i n → None ≡ permitted_length f p (get_or cs i 0) → Unwritable f p cs i
unwritable_at f p cs i n h l e = record { within = h; before = (l.bytes, l.text); fault = unknown (f (get_or cs i 0)) (permits p (get_or cs i 0)) e }
