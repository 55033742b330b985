-- The characters that are read from bytes are those that the bytes spell, and the fault that is told is the first.
use Rattle.std.proofs.Common.{◌≡◌, ℕ, zero, suc, ◌+◌, ◌<◌, ◌≤◌, Bool, true, false, ◌⊎◌, List, [], ◌∷◌, ◌++◌, length, take, drop, Some, None, Ok, Err, Option, Result, sym, refl, ap, ◌∙◌, subst, inl, inr, ⊎_elim, arith, take-add}
use Rattle.std.proofs.lemmas.Slice.Eq.{bytes_eq-Decides}
use Rattle.std.proofs.lemmas.List.{drop-drop, length-drop, length-take, length-take-le, take-append-drop}
use Rattle.std.proofs.lemmas.Bool.{cases_Bool, cases_order, cond-true, cond-false, false≢true}
use Rattle.refusal.specs.Chain.{then, lift, demand}
use Rattle.refusal.proofs.Chains.{ok_same, then_ok, then_go, lift_ok, demand_ok, demand_go}
use Rattle.field.specs.Areas.{Area}
use Rattle.text_code.specs.Characters.{is_allowed}
use Rattle.text_code.specs.declared.characters.CharacterFault.{CharacterFault}
use Rattle.text_code.specs.declared.characters.Permitted.TheVariants.{TicketText}
use Rattle.text_code.specs.Reading.{Faulty, Text}
use Rattle.text_code.specs.Spellings.{Begins, NoneBegins, OfCharacters, OneToFour, PrefixFree}
use Rattle.text_code.proofs.Checking.{only_answer}
use Rattle.text_code.proofs.Decoding.{begins_some, spelled_cons}
use Rattle.text_code.proofs.Unique.{unique_decoding}
use Rattle.wrap.specs.Checks.{OnlyCheck, TextChecked}
use Rattle.wrap.specs.Flow.{fits}
use Rattle.wrap.specs.declared.checks.TextFault.{TextFault}
use Rattle.wrap.specs.declared.checks.TextFault.TheVariants.{Character, TooLarge}
use Rattle.ticket.specs.Decoding.{among, begins, forget, length_of, or_fault, text_from, text_in}

-- a spelling that begins the bytes, as the test tells it
tested_begins : (f : ℕ → Option (List ℕ)) (bytes : List ℕ) (c : ℕ) (o : Option (List ℕ)) → f c ≡ o → begins o bytes ≡ true → Begins f c (length_of o) bytes
tested_begins f bytes c None e t = absurd (false≢true t)
tested_begins f bytes c (Some s) e t =
    let same : s ≡ take (length s) bytes = (bytes_eq-Decides s (take (length s) bytes)).0 t in
    record { within = omega (arith, ap length same ∙ length-take (length s) bytes); spells = e ∙ ap Some same }

begins_tested : (f : ℕ → Option (List ℕ)) (bytes : List ℕ) (c k : ℕ) → Begins f c k bytes → begins (f c) bytes ≡ true
begins_tested f bytes c k b =
    ap (λ o. begins o bytes) b.spells ∙ (bytes_eq-Decides (take k bytes) (take (length (take k bytes)) bytes)).1 (ap (λ n. take n bytes) (sym (length-take-le k bytes b.within)))

-- what the search below n tells of the front of the bytes
abbrev Among : (ℕ → Option (List ℕ)) → List ℕ → ℕ → Option ℕ → Type 0
Among f bytes n None = (c k : ℕ) → c < n → Begins f c k bytes → ⊥
Among f bytes n (Some c) = Begins f c (length_of (f c)) bytes

none_more : (f : ℕ → Option (List ℕ)) (bytes : List ℕ) (n : ℕ) (o : Option ℕ) → begins (f n) bytes ≡ false → Among f bytes n o → Among f bytes (suc n) o
none_more f bytes n None t h = λ c k below b.
    ⊎_elim (λ same. false≢true (sym t ∙ begins_tested f bytes n k (subst (λ m. Begins f m k bytes) same b)))
    (⊎_elim (λ less. h c k less b) (λ more. absurd (omega arith)))
    (cases_order c n)
none_more f bytes n (Some c) t h = h

among_tells : (f : ℕ → Option (List ℕ)) (bytes : List ℕ) (n : ℕ) → Among f bytes n (among f bytes n)
unfolding among
among_tells f bytes zero = λ c k below b. omega arith
among_tells f bytes (suc n) =
    ⊎_elim
    (λ t. subst (Among f bytes (suc n)) (sym (cond-true (begins (f n) bytes) (Some n) (among f bytes n) t)) (tested_begins f bytes n (f n) refl t))
    (λ t. subst (Among f bytes (suc n)) (sym (cond-false (begins (f n) bytes) (Some n) (among f bytes n) t)) (none_more f bytes n (among f bytes n) t (among_tells f bytes n)))
    (cases_Bool (begins (f n) bytes))

text_nothing : (f : ℕ → Option (List ℕ)) → Text f TicketText [] []
text_nothing f = record { spelled = refl; permitted = tt }

-- an allowed character before a text
text_cons : (f : ℕ → Option (List ℕ)) (c : ℕ) (cs s others : List ℕ) → f c ≡ Some s → is_allowed c ≡ true → Text f TicketText cs others → Text f TicketText (c ∷ cs) (s ++ others)
text_cons f c cs s others e ok t = record { spelled = spelled_cons f c cs s others e t.spelled; permitted = (ok, t.permitted) }

fault_first : (f : ℕ → Option (List ℕ)) (bytes : List ℕ) → 0 < length bytes → NoneBegins f bytes ⊎ ((n : ℕ) × (k : ℕ) × Begins f n k bytes × (is_allowed n ≡ false)) → Faulty f TicketText bytes 0
fault_first f bytes some fault = record { within = some; before = ([], text_nothing f); fault = fault }

-- a fault behind an allowed character
fault_behind : (f : ℕ → Option (List ℕ)) (bytes : List ℕ) (c k place : ℕ) → Begins f c k bytes → is_allowed c ≡ true → Faulty f TicketText (drop k bytes) place → Faulty f TicketText bytes (k + place)
fault_behind f bytes c k place b ok w =
    record {
      within = omega (arith, b.within, w.within, length-drop k bytes);
      before = (c ∷ w.before.0, subst (Text f TicketText (c ∷ w.before.0)) (sym (take-add k place bytes)) (text_cons f c w.before.0 (take k bytes) (take place (drop k bytes)) b.spells ok w.before.1));
      fault = subst (λ zs. NoneBegins f zs ⊎ ((n : ℕ) × (j : ℕ) × Begins f n j zs × (is_allowed n ≡ false))) (drop-drop place k bytes) w.fault;
    }

-- what reading bytes that begin at a place tells
abbrev Read : (ℕ → Option (List ℕ)) → ℕ → List ℕ → Result (List ℕ) ℕ → Type 0
Read f place bytes (Ok cs) = Text f TicketText cs bytes
Read f place bytes (Err fault) = (k : ℕ) × (fault ≡ place + k) × Faulty f TicketText bytes k

read_behind : (f : ℕ → Option (List ℕ)) (place : ℕ) (bytes : List ℕ) (c k : ℕ) (r : Result (List ℕ) ℕ) → Begins f c k bytes → is_allowed c ≡ true → Read f (place + k) (drop k bytes) r → Read f place bytes (then r (λ cs. Ok (c ∷ cs)))
read_behind f place bytes c k (Ok cs) b ok t = subst (Text f TicketText (c ∷ cs)) (take-append-drop k bytes) (text_cons f c cs (take k bytes) (drop k bytes) b.spells ok t)
read_behind f place bytes c k (Err fault) b ok (j, e, w) = (k + j, omega (arith, e), fault_behind f bytes c k j b ok w)

read_tested : (f : ℕ → Option (List ℕ)) (place : ℕ) (bytes : List ℕ) (c k : ℕ) (allowed : Bool) (r : Result (List ℕ) ℕ) → 0 < length bytes → Begins f c k bytes → is_allowed c ≡ allowed → Read f (place + k) (drop k bytes) r → Read f place bytes (then (demand allowed place) (λ _. then r (λ cs. Ok (c ∷ cs))))
read_tested f place bytes c k true r some b ok h = read_behind f place bytes c k r b ok h
read_tested f place bytes c k false r some b ok h = (0, omega arith, fault_first f bytes some (inr (c, k, b, ok)))

read_found : (f : ℕ → Option (List ℕ)) (place : ℕ) (bytes : List ℕ) (o : Option ℕ) (next : ℕ → Result (List ℕ) ℕ) → OfCharacters f → 0 < length bytes → Among f bytes 1114112 o → ((c : ℕ) → Begins f c (length_of (f c)) bytes → Read f (place + length_of (f c)) (drop (length_of (f c)) bytes) (next c)) → Read f place bytes (then (or_fault place o) (λ c. then (demand (is_allowed c) place) (λ _. then (next c) (λ cs. Ok (c ∷ cs)))))
read_found f place bytes None next bounded some none h =
    (0, omega arith, fault_first f bytes some (inl (λ c k b. none c k (omega (arith, bounded c (take k bytes) b.spells)) b)))
read_found f place bytes (Some c) next bounded some b h = read_tested f place bytes c (length_of (f c)) (is_allowed c) (next c) some b refl (h c b)

-- as many steps as there are bytes are enough
text_from_lem : (f : ℕ → Option (List ℕ)) (steps place : ℕ) (bytes : List ℕ) → OneToFour f → OfCharacters f → length bytes ≤ steps → Read f place bytes (text_from f steps place bytes)
unfolding text_from
text_from_lem f zero place [] short bounded enough = text_nothing f
text_from_lem f zero place (b ∷ bytes) short bounded enough = absurd (omega arith)
text_from_lem f (suc steps) place [] short bounded enough = text_nothing f
text_from_lem f (suc steps) place (b ∷ bytes) short bounded enough =
    read_found f place (b ∷ bytes) (among f (b ∷ bytes) 1114112) (λ c. text_from f steps (place + length_of (f c)) (drop (length_of (f c)) (b ∷ bytes))) bounded (omega arith) (among_tells f (b ∷ bytes) 1114112)
    (λ c h. text_from_lem f steps (place + length_of (f c)) (drop (length_of (f c)) (b ∷ bytes)) short bounded
    (omega (arith, begins_some f c (length_of (f c)) (b ∷ bytes) short h, length-drop (length_of (f c)) (b ∷ bytes))))

text_whole : (f : ℕ → Option (List ℕ)) (bytes : List ℕ) → OneToFour f → OfCharacters f → Read f 0 bytes (text_from f (length bytes) 0 bytes)
text_whole f bytes short bounded = text_from_lem f (length bytes) 0 bytes short bounded (omega arith)

-- the bytes spell one list of characters, and have a fault or spell a text, not both
only_read : (f : ℕ → Option (List ℕ)) (bytes cs : List ℕ) (r : Result (List ℕ) ℕ) → OneToFour f → PrefixFree f → Read f 0 bytes r → Text f TicketText cs bytes → r ≡ Ok cs
only_read f bytes cs (Ok ds) short apart t u = ap Ok (unique_decoding f short apart ds cs bytes t.spelled u.spelled)
only_read f bytes cs (Err place) short apart (k, e, w) u =
    let fault : CharacterFault = record { place = k } in
    let h : ◌≡◌ {A = Result ℕ CharacterFault} (Ok (length cs)) (Err fault) = only_answer f TicketText bytes (Err fault) short apart w (Ok (length cs)) (cs, u, refl) in
    let z : ◌≡◌ {A = ℕ} 0 1 = cc in absurd (omega arith)

-- the characters that are read are those that the bytes spell, and they fit
pub text_told : (f : ℕ → Option (List ℕ)) (area : Area) (bytes cs : List ℕ) → OneToFour f → OfCharacters f → text_in f area bytes ≡ Ok cs → Text f TicketText cs bytes × (fits area.height area.width cs ≡ true)
text_told f area bytes cs short bounded e =
    let a = then_ok (lift Character (text_from f (length bytes) 0 bytes)) (λ cs. then (demand (fits area.height area.width cs) TooLarge) (λ _. Ok cs)) cs e in
    let d = then_ok (demand (fits area.height area.width a.0) TooLarge) (λ _. Ok a.0) cs a.2 in
    let same : a.0 ≡ cs = ok_same a.0 cs d.2 in (
      subst (Read f 0 bytes) (lift_ok Character (text_from f (length bytes) 0 bytes) a.0 a.1 ∙ ap Ok same) (text_whole f bytes short bounded),
      subst (λ xs. fits area.height area.width xs ≡ true) same (demand_ok (fits area.height area.width a.0) TooLarge d.0 d.1),
    )

-- the characters that the bytes spell are read, where they fit
pub text_read : (f : ℕ → Option (List ℕ)) (area : Area) (bytes cs : List ℕ) → OneToFour f → OfCharacters f → PrefixFree f → Text f TicketText cs bytes → fits area.height area.width cs ≡ true → text_in f area bytes ≡ Ok cs
text_read f area bytes cs short bounded apart t fit =
    then_go (lift Character (text_from f (length bytes) 0 bytes)) (λ cs. then (demand (fits area.height area.width cs) TooLarge) (λ _. Ok cs)) cs (Ok cs)
    (ap (lift Character) (only_read f bytes cs (text_from f (length bytes) 0 bytes) short apart (text_whole f bytes short bounded) t))
    (then_go (demand (fits area.height area.width cs) TooLarge) (λ _. Ok cs) tt (Ok cs) (demand_go (fits area.height area.width cs) TooLarge fit) refl)

checked_fit : (f : ℕ → Option (List ℕ)) (h w : ℕ) (bytes cs : List ℕ) (fit : Bool) → Text f TicketText cs bytes → fits h w cs ≡ fit → TextChecked f h w bytes (forget (then (demand fit TooLarge) (λ _. Ok cs)))
checked_fit f h w bytes cs true t e = record { characters = cs; text = t; fit = e }
checked_fit f h w bytes cs false t e = record { characters = cs; text = t; fit = e }

checked_read : (f : ℕ → Option (List ℕ)) (h w : ℕ) (bytes : List ℕ) (r : Result (List ℕ) ℕ) → Read f 0 bytes r → TextChecked f h w bytes (forget (then (lift Character r) (λ cs. then (demand (fits h w cs) TooLarge) (λ _. Ok cs))))
checked_read f h w bytes (Ok cs) t = checked_fit f h w bytes cs (fits h w cs) t refl
checked_read f h w bytes (Err fault) (k, e, v) = subst (Faulty f TicketText bytes) (omega (arith, e)) v

-- what reading tells is true of the bytes
pub text_checked : (f : ℕ → Option (List ℕ)) (area : Area) (bytes : List ℕ) → OneToFour f → OfCharacters f → TextChecked f area.height area.width bytes (forget (text_in f area bytes))
text_checked f area bytes short bounded = checked_read f area.height area.width bytes (text_from f (length bytes) 0 bytes) (text_whole f bytes short bounded)

-- so an answer is what reading tells, where no other is true
pub text_only : (f : ℕ → Option (List ℕ)) (area : Area) (bytes : List ℕ) (r : Result (Unit {0}) TextFault) → OneToFour f → OfCharacters f → OnlyCheck (TextChecked f area.height area.width bytes) r → r ≡ forget (text_in f area bytes)
text_only f area bytes r short bounded only = sym (only (forget (text_in f area bytes)) (text_checked f area bytes short bounded))
