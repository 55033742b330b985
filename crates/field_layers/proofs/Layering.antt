-- Fields laid one over another: which of those before a number counts at a cell.
use Rattle.std.proofs.Common.{◌≡◌, ℕ, zero, suc, ◌+◌, ◌<◌, ◌≤◌, ◌-◌, min, max, Bool, true, false, cond, not, ◌&&◌, ltb, List, [], ◌∷◌, map, length, drop, length-drop, get_or, Some, None, Option, sym, refl, ap, ◌∙◌, subst, ⊎_elim, arith}
use Rattle.std.proofs.lemmas.List.{drop-map, get_or-drop, get_or-map, length-map}
use Rattle.std.proofs.lemmas.List.Folds.{list_all-map}
use Rattle.std.proofs.lemmas.Bool.{and_parts, and_from, both_ways, cases_Bool, cases_order, cond-true, cond-false, not-true, not_from_false}
use Rattle.std.proofs.lemmas.Bool.Decides.{nat_tests}
use Rattle.std.specs.List.{HoldsAt, list_all}
use Rattle.field.specs.Areas.{Area, covers, lawful}
use Rattle.field.specs.Fields.{Field}
use Rattle.field_layers.specs.Layers.{AtMostOne, Counts, CountsAt, CountsIn, LastOn, LawfulCounting, LawfulCovers, LawfulRectangles, MeetWhereShared, Shared, area_at, areas, begins, begins_on, counting, meets, meets_none, numbered}

-- a range from a to before a + h, and one from b to before b + k
ranges_meet : (a h b k : ℕ) → ltb (max a b) (min (a + h) (b + k)) ≡ true → (max a b < a + h) × (max a b < b + k)
ranges_meet a h b k e = (grind (arith, nat_tests), grind (arith, nat_tests))

meet_ranges : (a h b k m : ℕ) → a ≤ m → m < a + h → b ≤ m → m < b + k → ltb (max a b) (min (a + h) (b + k)) ≡ true
meet_ranges a h b k m p q r s = grind (arith, nat_tests)

record Covered (a : Area) (m n : ℕ) : Type 0 where
  line_from : a.line ≤ m
  line_to : m < a.line + a.height
  column_from : a.column ≤ n
  column_to : n < a.column + a.width

covered : (a : Area) (m n : ℕ) → covers a m n ≡ true → Covered a m n
covered a m n e = record { line_from = grind (arith, nat_tests); line_to = grind (arith, nat_tests); column_from = grind (arith, nat_tests); column_to = grind (arith, nat_tests) }

covering : (a : Area) (m n : ℕ) → Covered a m n → covers a m n ≡ true
covering a m n v =
    let p = v.line_from in
    let q = v.line_to in
    let r = v.column_from in
    let s = v.column_to in
    grind (arith, nat_tests)

-- two areas meet exactly when some cell is in both
shared : (a b : Area) → meets a b ≡ true → Shared a b
shared a b h =
    let p = and_parts (ltb (max a.line b.line) (min (a.line + a.height) (b.line + b.height))) (ltb (max a.column b.column) (min (a.column + a.width) (b.column + b.width))) h in
    let x = ranges_meet a.line a.height b.line b.height p.0 in
    let y = ranges_meet a.column a.width b.column b.width p.1 in
    let m : ℕ = max a.line b.line in
    let n : ℕ = max a.column b.column in
    record {
      line = m;
      column = n;
      first = covering a m n (record { line_from = omega arith; line_to = x.0; column_from = omega arith; column_to = y.0 });
      second = covering b m n (record { line_from = omega arith; line_to = x.1; column_from = omega arith; column_to = y.1 });
    }

meeting : (a b : Area) (m n : ℕ) → covers a m n ≡ true → covers b m n ≡ true → meets a b ≡ true
meeting a b m n e g =
    let p = covered a m n e in
    let q = covered b m n g in
    and_from (ltb (max a.line b.line) (min (a.line + a.height) (b.line + b.height))) (ltb (max a.column b.column) (min (a.column + a.width) (b.column + b.width)))
    (meet_ranges a.line a.height b.line b.height m p.line_from p.line_to q.line_from q.line_to)
    (meet_ranges a.column a.width b.column b.width n p.column_from p.column_to q.column_from q.column_to)

pub meet_where_shared : MeetWhereShared
meet_where_shared a b = (shared a b, λ s. meeting a b s.line s.column s.first s.second)

-- what does not meet an area covers none of its cells, and the other way round
apart : (a b : Area) (m n : ℕ) → meets a b ≡ false → covers a m n ≡ true → covers b m n ≡ false
apart a b m n e p = ⊎_elim (λ q. absurd (both_ways (meets a b) e (meeting a b m n p q))) (λ q. q) (cases_Bool (covers b m n))

parted : (a b : Area) → ((m n : ℕ) → covers a m n ≡ true → covers b m n ≡ false) → meets a b ≡ false
parted a b u =
    ⊎_elim (λ e. let s = shared a b e in absurd (both_ways (covers b s.line s.column) (u s.line s.column s.first) s.second)) (λ e. e)
    (cases_Bool (meets a b))

-- what `area_at` reads behind the end
abbrev no_area : Area
no_area = record { line = 0; column = 0; height = 0; width = 0 }

pub lawful_area_lem : LawfulRectangles
lawful_area_lem x =
    let p : 1 ≤ x.height = x.lawful.0 in
    let q : 1 ≤ x.width = x.lawful.1 in
    let r : x.line + x.height ≤ 15 = x.lawful.2 in
    let s : x.column + x.width ≤ 72 = x.lawful.3 in
    grind (arith, nat_tests)

pub lawful_covers : LawfulCovers
lawful_covers a l c w h =
    let p : a.line ≡ l = grind (arith, nat_tests) in
    let q : a.column ≡ c = grind (arith, nat_tests) in
    let x : 1 ≤ a.height = grind (arith, nat_tests) in
    let y : 1 ≤ a.width = grind (arith, nat_tests) in
    covering a l c (record { line_from = omega arith; line_to = omega arith; column_from = omega arith; column_to = omega arith })

-- a lawful area begins on a cell where it begins
begun_covers : (a : Area) (l c : ℕ) (p : Bool) → begins a l c ≡ p → lawful a ≡ true → begins_on a l c ≡ begins a l c
begun_covers a l c true h w = and_from (begins a l c) (covers a l c) h (lawful_covers a l c w h) ∙ sym h
begun_covers a l c false h w = ap (λ b. b && covers a l c) h ∙ sym h

pub lawful_counting : LawfulCounting
lawful_counting [] l c w = refl
lawful_counting (x ∷ xs) l c w =
    let p = and_parts (lawful x.area) (list_all (λ y. lawful y.area) xs) w in
    ap (λ b. cond (b && meets_none x.area (areas xs)) (Some x) (counting l c xs)) (begun_covers x.area l c (begins x.area l c) refl p.0)
    ∙ ap (cond (begins x.area l c && meets_none x.area (areas xs)) (Some x)) (lawful_counting xs l c p.1)

pub at_most_one : AtMostOne
at_most_one xs l c j k x y =
    ⊎_elim (λ e. e)
    (⊎_elim (λ less. absurd (both_ways (covers (area_at xs k) l c) (x.uncovered k less y.within l c x.covering) y.covering))
    (λ more. absurd (both_ways (covers (area_at xs j) l c) (y.uncovered j more x.within l c y.covering) x.covering)))
    (cases_order j k)

-- what counts in a list with one more in front
counts_tail : (a : Area) (xs : List Area) (l c k : ℕ) → Counts (a ∷ xs) l c (suc k) → Counts xs l c k
counts_tail a xs l c k h =
    record { within = omega (arith, h.within); there = h.there; covering = h.covering; uncovered = λ j p q. h.uncovered (suc j) (omega arith) (omega arith) }

behind_front : (a : Area) (xs : List Area) (k j : ℕ) (P : Area → Type 0) → k < j → j < suc (length xs) → ((i : ℕ) → j ≡ suc i → i < length xs → P (area_at xs i)) → P (area_at (a ∷ xs) j)
behind_front a xs k zero P h s each = absurd (omega arith)
behind_front a xs k (suc j) P h s each = each j refl (omega arith)

counts_cons : (a : Area) (xs : List Area) (l c k : ℕ) → Counts xs l c k → Counts (a ∷ xs) l c (suc k)
counts_cons a xs l c k h =
    record {
      within = omega (arith, h.within);
      there = h.there;
      covering = h.covering;
      uncovered = λ j p q m n e. behind_front a xs (suc k) j (λ b. covers b m n ≡ false) p q (λ i g s. h.uncovered i (omega arith) s m n e);
    }

meets_none_at : (a : Area) (xs : List Area) (k : ℕ) → meets_none a xs ≡ true → k < length xs → meets a (area_at xs k) ≡ false
meets_none_at a [] k e h = absurd (omega arith)
meets_none_at a (b ∷ bs) zero e h = not-true (meets a b) (and_parts (not (meets a b)) (meets_none a bs) e).0
meets_none_at a (b ∷ bs) (suc k) e h = meets_none_at a bs k (and_parts (not (meets a b)) (meets_none a bs) e).1 (omega arith)

meets_none_from : (a : Area) (xs : List Area) → ((k : ℕ) → k < length xs → meets a (area_at xs k) ≡ false) → meets_none a xs ≡ true
meets_none_from a [] h = refl
meets_none_from a (b ∷ bs) h =
    and_from (not (meets a b)) (meets_none a bs) (not_from_false (meets a b) (h 0 (omega arith))) (meets_none_from a bs (λ k s. h (suc k) (omega arith)))

-- the first of a list counts exactly when it begins on the cell and meets no other
counts_front : (a : Area) (xs : List Area) (l c : ℕ) → (begins_on a l c && meets_none a xs) ≡ true → Counts (a ∷ xs) l c 0
counts_front a xs l c e =
    let p = and_parts (begins_on a l c) (meets_none a xs) e in
    let b = and_parts (begins a l c) (covers a l c) p.0 in
    record {
      within = omega arith;
      there = b.0;
      covering = b.1;
      uncovered = λ j h q m n g. behind_front a xs 0 j (λ b. covers b m n ≡ false) h q (λ i f s. apart a (area_at xs i) m n (meets_none_at a xs i p.1 s) g);
    }

front_counts : (a : Area) (xs : List Area) (l c : ℕ) → Counts (a ∷ xs) l c 0 → (begins_on a l c && meets_none a xs) ≡ true
front_counts a xs l c h =
    and_from (begins_on a l c) (meets_none a xs) (and_from (begins a l c) (covers a l c) h.there h.covering)
    (meets_none_from a xs (λ k s. parted a (area_at xs k) (λ m n e. h.uncovered (suc k) (omega arith) (omega arith) m n e)))

-- where a later one counts the first does not
later_counts : (a : Area) (xs : List Area) (l c k : ℕ) → Counts (a ∷ xs) l c (suc k) → (begins_on a l c && meets_none a xs) ≡ false
later_counts a xs l c k h =
    ⊎_elim (λ e. let z : 0 ≡ suc k = at_most_one (a ∷ xs) l c 0 (suc k) (counts_front a xs l c e) h in absurd (omega arith)) (λ e. e)
    (cases_Bool (begins_on a l c && meets_none a xs))

counted : (xs : List Field) (l c : ℕ) (r : Option ℕ) → CountsAt (areas xs) l c r → counting l c xs ≡ numbered xs r
counted [] l c None h = refl
counted [] l c (Some k) h = absurd (omega (arith, h.within))
counted (x ∷ xs) l c None h =
    let e : (begins_on x.area l c && meets_none x.area (areas xs)) ≡ false =
    ⊎_elim (λ e. absurd (h 0 (counts_front x.area (areas xs) l c e))) (λ e. e) (cases_Bool (begins_on x.area l c && meets_none x.area (areas xs))) in
    cond-false (begins_on x.area l c && meets_none x.area (areas xs)) (Some x) (counting l c xs) e
    ∙ counted xs l c None (λ k g. h (suc k) (counts_cons x.area (areas xs) l c k g))
counted (x ∷ xs) l c (Some zero) h =
    cond-true (begins_on x.area l c && meets_none x.area (areas xs)) (Some x) (counting l c xs) (front_counts x.area (areas xs) l c h)
counted (x ∷ xs) l c (Some (suc k)) h =
    cond-false (begins_on x.area l c && meets_none x.area (areas xs)) (Some x) (counting l c xs) (later_counts x.area (areas xs) l c k h)
    ∙ counted xs l c (Some k) (counts_tail x.area (areas xs) l c k h)

pub counted_in : (ys : List Area) (l c : ℕ) (r : Option ℕ) → CountsAt ys l c r → CountsIn ys l c r
counted_in ys l c r h xs e = counted xs l c r (subst (λ zs. CountsAt zs l c r) e h)

-- from the last field that begins on the cell to the one that counts

placed_at : {X : Type 0} (place : X → Area) (xs : List X) (k : ℕ) (P : Area → Type 0) → k < length xs → HoldsAt (λ x. P (place x)) xs k → P (area_at (map place xs) k)
placed_at place [] k P s h = absurd (omega arith)
placed_at place (x ∷ xs) k P s h = subst P (sym (get_or-map place (x ∷ xs) k x no_area s)) (h x)

-- none from the i-th on begins on the cell, so none from there counts
none_begun : {X : Type 0} (place : X → Area) (xs : List X) (l c i k : ℕ) → ((j : ℕ) → i ≤ j → j < length xs → HoldsAt (λ x. begins_on (place x) l c ≡ false) xs j) → i ≤ k → Counts (map place xs) l c k → ⊥
none_begun place xs l c i k none p h =
    let a = area_at (map place xs) k in
    let s : k < length xs = omega (arith, h.within, length-map xs place) in
    both_ways (begins_on a l c) (placed_at place xs k (λ b. begins_on b l c ≡ false) s (none k p s)) (and_from (begins a l c) (covers a l c) h.there h.covering)

pub counts_none : {X : Type 0} (place : X → Area) (xs : List X) (l c : ℕ) → LastOn place xs l c None → CountsAt (map place xs) l c None
counts_none place xs l c h k x = none_begun place xs l c 0 k (λ j p s. h j s) (omega arith) x

-- whether the k-th meets a later one
pub meets_later : {X : Type 0} (place : X → Area) (xs : List X) (k : ℕ) (x : X) (a : Area) (r : Bool) → k < length xs → x ≡ get_or xs k x → a ≡ place x
    → r ≡ list_all (λ y. not (meets a (place y))) (drop (k + 1) xs) → r ≡ meets_none (area_at (map place xs) k) (drop (k + 1) (map place xs))
meets_later place xs k x a r s e q t =
    let b : a ≡ area_at (map place xs) k = q ∙ ap place e ∙ sym (get_or-map place xs k x no_area s) in
    t ∙ sym (list_all-map (λ y. not (meets a y)) place (drop (k + 1) xs))
    ∙ ap (meets_none a) (sym (drop-map place (k + 1) xs))
    ∙ ap (λ z. meets_none z (drop (k + 1) (map place xs))) b

counts_last : (ys : List Area) (l c k : ℕ) → k < length ys → begins_on (area_at ys k) l c ≡ true → meets_none (area_at ys k) (drop (k + 1) ys) ≡ true → Counts ys l c k
counts_last ys l c k s b e =
    let p = and_parts (begins (area_at ys k) l c) (covers (area_at ys k) l c) b in
    record {
      within = s;
      there = p.0;
      covering = p.1;
      uncovered = λ j h q m n g.
          let i : ℕ = j - (k + 1) in
          let t : i < length (drop (k + 1) ys) = omega (arith, length-drop (k + 1) ys) in
          let f : area_at (drop (k + 1) ys) i ≡ area_at ys j = get_or-drop (k + 1) ys i no_area ∙ ap (area_at ys) (omega arith) in
          apart (area_at ys k) (area_at ys j) m n (ap (meets (area_at ys k)) (sym f) ∙ meets_none_at (area_at ys k) (drop (k + 1) ys) i e t) g;
    }

-- where the k-th counts it meets no later one
counting_meets_none : (ys : List Area) (l c k : ℕ) → Counts ys l c k → meets_none (area_at ys k) (drop (k + 1) ys) ≡ true
counting_meets_none ys l c k h =
    meets_none_from (area_at ys k) (drop (k + 1) ys)
    (λ i s.
    let f : area_at (drop (k + 1) ys) i ≡ area_at ys (k + 1 + i) = get_or-drop (k + 1) ys i no_area in
    ap (meets (area_at ys k)) f
    ∙ parted (area_at ys k) (area_at ys (k + 1 + i)) (λ m n e. h.uncovered (k + 1 + i) (omega arith) (omega (arith, length-drop (k + 1) ys)) m n e))

pub last_counts : {X : Type 0} (place : X → Area) (xs : List X) (l c k : ℕ) → LastOn place xs l c (Some k) → meets_none (area_at (map place xs) k) (drop (k + 1) (map place xs)) ≡ true → Counts (map place xs) l c k
last_counts place xs l c k h n =
    counts_last (map place xs) l c k (omega (arith, h.0, length-map xs place)) (placed_at place xs k (λ a. begins_on a l c ≡ true) h.0 h.1) n

pub last_hidden : {X : Type 0} (place : X → Area) (xs : List X) (l c k : ℕ) → LastOn place xs l c (Some k) → meets_none (area_at (map place xs) k) (drop (k + 1) (map place xs)) ≡ false → CountsAt (map place xs) l c None
last_hidden place xs l c k h n j x =
    let ys = map place xs in
    let b : begins_on (area_at ys k) l c ≡ true = placed_at place xs k (λ a. begins_on a l c ≡ true) h.0 h.1 in
    let cover = (and_parts (begins (area_at ys k) l c) (covers (area_at ys k) l c) b).1 in
    let s : k < length ys = omega (arith, h.0, length-map xs place) in
    ⊎_elim
    (λ e. both_ways (meets_none (area_at ys k) (drop (k + 1) ys)) n (counting_meets_none ys l c k (subst (Counts ys l c) e x)))
    (⊎_elim (λ less. both_ways (covers (area_at ys k) l c) (x.uncovered k less s l c x.covering) cover)
    (λ more. none_begun place xs l c (k + 1) j (λ i p q. h.2 i (omega arith) q) (omega arith) x))
    (cases_order j k)
