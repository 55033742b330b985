-- A head and its 53 bytes: what is read is what is written.
use Rattle.std.proofs.Common.{◌≡◌, ℕ, ◌+◌, ◌≤◌, Bool, true, ◌&&◌, eqb, leb, List, ◌∷◌, ◌++◌, length, get_or, take, drop, Ok, codes, sym, refl, ap, ◌∙◌, subst, ⊎_elim, append_assoc, arith, rules}
use Rattle.std.proofs.lemmas.List.{length-append, length-take, drop-take, take-take, take_all, take_at}
use Rattle.std.proofs.lemmas.Bool.{and_parts, and_from, or_cases, leb-true, le-leb, eqb-true, cond_both}
use Rattle.std.proofs.ByRecursion.{All-get_or}
use Rattle.std.specs.List.{list_all}
use Rattle.std.specs.Str.{bytes_eq}
use Rattle.std.proofs.lemmas.Slice.Eq.{bytes_eq-Decides}
use Rattle.calendar.specs.Gregorian.{leap, month_lengths, month_length, real_date, real_time}
use Rattle.calendar.proofs.Bounds.{date_bounds, time_bounds}
use Rattle.refusal.specs.declared.faults.ItemFault.{ItemFault}
use Rattle.refusal.specs.Chain.{lift, demand}
use Rattle.refusal.specs.declared.faults.RecordFault.TheVariants.{Item}
use Rattle.octets.specs.Bytes.{part, is_printable}
use Rattle.octets.specs.Digits.{numeral, digits}
use Rattle.record.specs.Start.{body_length}
use Rattle.head.specs.Heads.{is_letter, lawful, lawful_key, lawful_edition, lawful_language, lawful_second, edition_bytes, encode}
use Rattle.head.specs.Reading.{fault_at, tested, edition_at, flags_at, items_at, head_at}
use Rattle.head.specs.declared.items.Edition.{Edition}
use Rattle.head.specs.declared.items.HeadItems.{HeadItems}
use Rattle.record.specs.declared.start.RecordKind.TheVariants.{Head}
use Rattle.refusal.proofs.Chains.{ok_same, then_ok, then_go, lift_ok, demand_ok, demand_go}
use Rattle.octets.proofs.DigitLaws.{length_digits}
use Rattle.octets.proofs.PartLaws.{join_parts, cut_parts, number_told, number_read}
use Rattle.record.proofs.StartLaws.{start_told, start_read}

-- the first twelve bytes
head_start_told : (m : List ℕ) (n : ℕ) → body_length Head m 0 0 ≡ Ok n → (53 ≤ length m) × (part m 0 12 ≡ codes "U_HEAD010041")
head_start_told m n e =
    let s = start_told Head m 0 0 n e in
    let is : n ≡ 41 = eqb-true n 41 s.lawful in
    let id : part m 0 6 ≡ codes "U_HEAD" = (bytes_eq-Decides (part m 0 6) (codes "U_HEAD")).0 s.id in
    let version : part m 6 2 ≡ codes "01" = (bytes_eq-Decides (part m 6 2) (codes "01")).0 s.version in
    let size : part m 8 4 ≡ codes "0041" = s.size ∙ ap (digits 4) is in
    (omega (arith, s.within), join_parts m 0 6 6 (codes "U_HEAD") (codes "010041") id (join_parts m 6 2 4 (codes "01") (codes "0041") version size))

head_start_read : (m : List ℕ) → 53 ≤ length m → part m 0 12 ≡ codes "U_HEAD010041" → body_length Head m 0 0 ≡ Ok 41
head_start_read m long e =
    let a = cut_parts m 0 6 6 (codes "U_HEAD") (codes "010041") refl e in
    let b = cut_parts m 6 2 4 (codes "01") (codes "0041") refl a.1 in
    start_read Head m 0 0 41
    (record {
      id = (bytes_eq-Decides (part m 0 6) (codes "U_HEAD")).1 a.0;
      version = (bytes_eq-Decides (part m 6 2) (codes "01")).1 b.0;
      size = b.1;
      lawful = refl;
      short = omega arith;
      within = long;
    })

-- the date, the hour and the minute
edition_told : (m : List ℕ) (e : Edition) → 53 ≤ length m → edition_at m ≡ Ok e → (lawful_edition e ≡ true) × (part m 36 12 ≡ edition_bytes e)
edition_told m e long h =
    let day = then_ok (numeral (fault_at 36) (part m 36 2)) _ _ h in
    let month = then_ok (numeral (fault_at 36) (part m 38 2)) _ _ day.2 in
    let year = then_ok (numeral (fault_at 36) (part m 40 4)) _ _ month.2 in
    let hour = then_ok (numeral (fault_at 36) (part m 44 2)) _ _ year.2 in
    let minute = then_ok (numeral (fault_at 36) (part m 46 2)) _ _ hour.2 in
    let made : Edition = record { date = record { day = day.0; month = month.0; year = year.0 }; hour = hour.0; minute = minute.0 } in
    let last = then_ok (demand (lawful_edition made) (fault_at 36)) _ _ minute.2 in
    let bytes : part m 36 12 ≡ edition_bytes made =
    join_parts m 36 2 10 _ _ (number_told m (fault_at 36) 36 2 day.0 (omega arith) day.1).0
    (join_parts m 38 2 8 _ _ (number_told m (fault_at 36) 38 2 month.0 (omega arith) month.1).0
    (join_parts m 40 4 4 _ _ (number_told m (fault_at 36) 40 4 year.0 (omega arith) year.1).0
    (join_parts m 44 2 2 _ _ (number_told m (fault_at 36) 44 2 hour.0 (omega arith) hour.1).0
    (number_told m (fault_at 36) 46 2 minute.0 (omega arith) minute.1).0))) in
    subst (λ x. (lawful_edition x ≡ true) × (part m 36 12 ≡ edition_bytes x)) (ok_same made e last.2) (demand_ok (lawful_edition made) _ _ last.1, bytes)

-- a month's days have two digits
month_short : (m y : ℕ) → m ≤ 12 → month_length m y ≤ 32
month_short m y within =
    let a : get_or (0 ∷ month_lengths) m 0 ≤ 31 = All-get_or (λ x. x ≤ 31) (0 ∷ month_lengths) m 0 (omega arith) (search rules) in
    cond_both {A = ℕ} (eqb m 2 && leap y) 1 0 (λ x. get_or (0 ∷ month_lengths) m 0 + x ≤ 32) (λ e. omega arith) (λ e. omega arith)

edition_read : (m : List ℕ) (e : Edition) → lawful_edition e ≡ true → part m 36 12 ≡ edition_bytes e → edition_at m ≡ Ok e
edition_read m e fine h =
    let f : ItemFault = fault_at 36 in
    let real = and_parts (real_date e.date) (real_time (record { hour = e.hour; minute = e.minute; second = 0 })) fine in
    let d = date_bounds e.date real.0 in
    let t = time_bounds (record { hour = e.hour; minute = e.minute; second = 0 }) real.1 in
    let day = cut_parts m 36 2 10 (digits 2 e.date.day) _ (length_digits 2 e.date.day) h in
    let month = cut_parts m 38 2 8 (digits 2 e.date.month) _ (length_digits 2 e.date.month) day.1 in
    let year = cut_parts m 40 4 4 (digits 4 e.date.year) _ (length_digits 4 e.date.year) month.1 in
    let time = cut_parts m 44 2 2 (digits 2 e.hour) _ (length_digits 2 e.hour) year.1 in
    then_go (numeral f (part m 36 2)) _ _ _ (number_read m f 36 2 e.date.day (omega arith) (omega (arith, month_short e.date.month e.date.year d.month_to)) day.0)
    (then_go (numeral f (part m 38 2)) _ _ _ (number_read m f 38 2 e.date.month (omega arith) (omega arith) month.0)
    (then_go (numeral f (part m 40 4)) _ _ _ (number_read m f 40 4 e.date.year (omega arith) (omega arith) year.0)
    (then_go (numeral f (part m 44 2)) _ _ _ (number_read m f 44 2 e.hour (omega arith) (omega arith) time.0)
    (then_go (numeral f (part m 46 2)) _ _ _ (number_read m f 46 2 e.minute (omega arith) (omega arith) time.1)
    (then_go (demand (lawful_edition e) f) _ tt _ (demand_go (lawful_edition e) f fine) refl)))))

-- what the test of a head's items says of each
pub record Lawful (h : HeadItems) : Type 0 where
  pub carrier : h.carrier ≤ 9999
  pub key : lawful_key h.key ≡ true
  pub edition : lawful_edition h.edition ≡ true
  pub flags : h.flags ≤ 7
  pub language : lawful_language h.language ≡ true
  pub second : lawful_second h.second_language ≡ true

pub lawful_parts : (h : HeadItems) → lawful h ≡ true → Lawful h
lawful_parts h e =
    let a = and_parts (leb h.carrier 9999) _ e in
    let b = and_parts (lawful_key h.key) _ a.1 in
    let c = and_parts (lawful_edition h.edition) _ b.1 in
    let d = and_parts (leb h.flags 7) _ c.1 in
    let l = and_parts (lawful_language h.language) (lawful_second h.second_language) d.1 in
    record { carrier = leb-true h.carrier 9999 a.0; key = b.0; edition = c.0; flags = leb-true h.flags 7 d.0; language = l.0; second = l.1 }

pub lawful_from : (h : HeadItems) → Lawful h → lawful h ≡ true
lawful_from h l =
    and_from (leb h.carrier 9999) _ (le-leb h.carrier 9999 l.carrier)
    (and_from (lawful_key h.key) _ l.key
    (and_from (lawful_edition h.edition) _ l.edition
    (and_from (leb h.flags 7) _ (le-leb h.flags 7 l.flags) (and_from (lawful_language h.language) (lawful_second h.second_language) l.language l.second))))

length_key : (key : List ℕ) → lawful_key key ≡ true → length key ≡ 20
length_key key e = eqb-true (length key) 20 (and_parts (eqb (length key) 20) (list_all is_printable key) e).0

length_language : (l : List ℕ) → lawful_language l ≡ true → length l ≡ 2
length_language l e = eqb-true (length l) 2 (and_parts (eqb (length l) 2) (is_letter (get_or l 0 0) && is_letter (get_or l 1 0)) e).0

length_second : (l : List ℕ) → lawful_second l ≡ true → length l ≡ 2
length_second l e =
    ⊎_elim (length_language l) (λ t. ap length ((bytes_eq-Decides l (codes "  ")).0 t)) (or_cases (lawful_language l) (bytes_eq l (codes "  ")) e)

pub length-encode : (h : HeadItems) → lawful h ≡ true → length (encode h) ≡ 53
unfolding encode
length-encode h fine =
    let l = lawful_parts h fine in
    let k : length h.key ≡ 20 = length_key h.key l.key in
    let a : length h.language ≡ 2 = length_language h.language l.language in
    let b : length h.second_language ≡ 2 = length_second h.second_language l.second in
    simp length-append (omega arith)

-- the items
tested_ok : (test : List ℕ → Bool) (m : List ℕ) (p n : ℕ) (x : List ℕ) → tested test m p n ≡ Ok x → (test x ≡ true) × (part m p n ≡ x)
tested_ok test m p n x e =
    let a = then_ok (demand (test (part m p n)) (fault_at p)) _ _ e in
    let q : part m p n ≡ x = ok_same (part m p n) x a.2 in
    (ap test (sym q) ∙ demand_ok (test (part m p n)) _ _ a.1, q)

tested_go : (test : List ℕ → Bool) (m : List ℕ) (p n : ℕ) (x : List ℕ) → test x ≡ true → part m p n ≡ x → tested test m p n ≡ Ok x
tested_go test m p n x e q = then_go (demand (test (part m p n)) (fault_at p)) _ tt _ (demand_go (test (part m p n)) _ (ap test q ∙ e)) (ap Ok q)

items_told : (m : List ℕ) (h : HeadItems) → 53 ≤ length m → part m 0 12 ≡ codes "U_HEAD010041" → items_at m ≡ Ok h → (lawful h ≡ true) × (part m 0 53 ≡ encode h)
unfolding encode
items_told m h long start e =
    let carrier = then_ok (numeral (fault_at 12) (part m 12 4)) _ _ e in
    let key = then_ok (tested lawful_key m 16 20) _ _ carrier.2 in
    let edition = then_ok (edition_at m) _ _ key.2 in
    let flags = then_ok (flags_at m) _ _ edition.2 in
    let language = then_ok (tested lawful_language m 49 2) _ _ flags.2 in
    let second = then_ok (tested lawful_second m 51 2) _ _ language.2 in
    let flag = then_ok (numeral (fault_at 48) (part m 48 1)) _ _ flags.1 in
    let few = then_ok (demand (leb flag.0 7) (fault_at 48)) _ _ flag.2 in
    let same : flag.0 ≡ flags.0 = ok_same flag.0 flags.0 few.2 in
    let small : flag.0 ≤ 7 = leb-true flag.0 7 (demand_ok (leb flag.0 7) _ _ few.1) in
    let c = number_told m (fault_at 12) 12 4 carrier.0 (omega arith) carrier.1 in
    let k = tested_ok lawful_key m 16 20 key.0 key.1 in
    let d = edition_told m edition.0 long edition.1 in
    let f = number_told m (fault_at 48) 48 1 flag.0 (omega arith) flag.1 in
    let a = tested_ok lawful_language m 49 2 language.0 language.1 in
    let b = tested_ok lawful_second m 51 2 second.0 second.1 in
    let made : HeadItems = record { carrier = carrier.0; key = key.0; edition = edition.0; flags = flags.0; language = language.0; second_language = second.0 } in
    let fine : Lawful made = record { carrier = omega (arith, c.1); key = k.0; edition = d.0; flags = omega arith; language = a.0; second = b.0 } in
    let bytes : part m 0 53 ≡ encode made =
    join_parts m 0 12 41 _ _ start
    (join_parts m 12 4 37 _ _ c.0
    (join_parts m 16 20 17 _ _ k.1
    (join_parts m 36 12 5 _ _ d.1
    (join_parts m 48 1 4 _ _ (f.0 ∙ ap (digits 1) same)
    (join_parts m 49 2 2 _ _ a.1 b.1))))) in
    subst (λ x. (lawful x ≡ true) × (part m 0 53 ≡ encode x)) (ok_same made h second.2) (lawful_from made fine, bytes)

pub head_told : (m : List ℕ) (h : HeadItems) → head_at m ≡ Ok h → (lawful h ≡ true) × (take 53 m ≡ encode h)
head_told m h e =
    let a = then_ok (body_length Head m 0 0) _ _ e in
    let s = head_start_told m a.0 a.1 in
    items_told m h s.0 s.1 (lift_ok Item (items_at m) h a.2)

pub head_read : (m : List ℕ) (h : HeadItems) → lawful h ≡ true → take 53 m ≡ encode h → head_at m ≡ Ok h
unfolding encode
head_read m h fine e =
    let l = lawful_parts h fine in
    let long : 53 ≤ length m = omega (arith, length-take 53 m, ap length e, length-encode h fine) in
    let start = cut_parts m 0 12 41 (codes "U_HEAD010041") _ refl e in
    let carrier = cut_parts m 12 4 37 (digits 4 h.carrier) _ (length_digits 4 h.carrier) start.1 in
    let key = cut_parts m 16 20 17 h.key _ (length_key h.key l.key) carrier.1 in
    let edition = cut_parts m 36 12 5 (edition_bytes h.edition) _ refl key.1 in
    let flags = cut_parts m 48 1 4 (digits 1 h.flags) _ (length_digits 1 h.flags) edition.1 in
    let language = cut_parts m 49 2 2 h.language h.second_language (length_language h.language l.language) flags.1 in
    let flag : flags_at m ≡ Ok h.flags =
    then_go (numeral (fault_at 48) (part m 48 1)) _ _ _ (number_read m (fault_at 48) 48 1 h.flags (omega arith) (omega arith) flags.0)
    (then_go (demand (leb h.flags 7) (fault_at 48)) _ tt _ (demand_go (leb h.flags 7) _ (le-leb h.flags 7 l.flags)) refl) in
    let items : items_at m ≡ Ok h =
    then_go (numeral (fault_at 12) (part m 12 4)) _ _ _ (number_read m (fault_at 12) 12 4 h.carrier (omega arith) (omega arith) carrier.0)
    (then_go (tested lawful_key m 16 20) _ _ _ (tested_go lawful_key m 16 20 h.key l.key key.0)
    (then_go (edition_at m) _ _ _ (edition_read m h.edition l.edition edition.0)
    (then_go (flags_at m) _ _ _ flag
    (then_go (tested lawful_language m 49 2) _ _ _ (tested_go lawful_language m 49 2 h.language l.language language.0)
    (then_go (tested lawful_second m 51 2) _ _ _ (tested_go lawful_second m 51 2 h.second_language l.second language.1) refl))))) in
    then_go (body_length Head m 0 0) _ 41 _ (head_start_read m long start.0) (ap (lift Item) items)

pub reads_back : (h : HeadItems) (rest : List ℕ) → lawful h ≡ true → head_at (encode h ++ rest) ≡ Ok h
reads_back h rest fine = head_read (encode h ++ rest) h fine (take_at (encode h) rest 53 (length-encode h fine))

pub encode_unique : (g h : HeadItems) → lawful g ≡ true → lawful h ≡ true → encode g ≡ encode h → g ≡ h
encode_unique g h first second e =
    let whole : take 53 (encode g) ≡ encode g = take_all 53 (encode g) (omega (arith, length-encode g first)) in
    ok_same g h (sym (head_read (encode g) g first whole) ∙ head_read (encode g) h second (whole ∙ e))

join_seven : (a b c d e f g : List ℕ) → a ++ b ++ c ++ d ++ e ++ f ++ g ≡ a ++ (b ++ (c ++ (d ++ (e ++ (f ++ g)))))
join_seven a b c d e f g = simp append_assoc

-- the items one behind another, as they are laid
pub join_items : (h : HeadItems) → codes "U_HEAD010041" ++ digits 4 h.carrier ++ h.key ++ edition_bytes h.edition ++ digits 1 h.flags ++ h.language ++ h.second_language ≡ encode h
unfolding encode
join_items h =
    join_seven (codes "U_HEAD010041") (digits 4 h.carrier) h.key (edition_bytes h.edition) (digits 1 h.flags) h.language h.second_language

-- the items stand in the first 53 bytes
part_front : (m : List ℕ) (p k w : ℕ) → w ≤ k → part (part m 0 (p + k)) p w ≡ part m p w
part_front m p k w within = ap (take w) (drop-take p k m) ∙ take-take w k (drop p m) within

pub items_front : (m : List ℕ) → items_at (part m 0 53) ≡ items_at m
items_front m =
    let carrier = part_front m 12 41 4 (omega arith) in
    let key = part_front m 16 37 20 (omega arith) in
    let day = part_front m 36 17 2 (omega arith) in
    let month = part_front m 38 15 2 (omega arith) in
    let year = part_front m 40 13 4 (omega arith) in
    let hour = part_front m 44 9 2 (omega arith) in
    let minute = part_front m 46 7 2 (omega arith) in
    let flags = part_front m 48 5 1 (omega arith) in
    let language = part_front m 49 4 2 (omega arith) in
    let second = part_front m 51 2 2 (omega arith) in
    simp (carrier, key, day, month, year, hour, minute, flags, language, second) refl
