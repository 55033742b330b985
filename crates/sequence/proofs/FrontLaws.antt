-- A memory of which only the first n entries count, or all where it has fewer.
use Rattle.std.proofs.Common.{◌≡◌, ℕ, ◌+◌, ◌-◌, ◌<◌, ◌≤◌, List, ◌++◌, length, take, drop, set, sym, ap, ◌∙◌, ⊎_elim, arith, take-add}
use lib.Seq.{paste, take-set-lt}
use Rattle.std.proofs.lemmas.List.{append-nil, append_assoc, length-append, length-take, length-take-le, length-drop, take_all, drop_all, take_at, drop-drop, take-take, drop-take, take-append-drop, take-append-le, drop-append-le}
use Rattle.std.proofs.lemmas.List.Edits.{take-paste}
use Rattle.std.proofs.lemmas.Bool.{cases_lt}
use Rattle.lists.specs.Laying.{laid}
use Rattle.sequence.specs.Parts.{part, spliced, without, moved}
use Rattle.sequence.proofs.PartLaws.{length_without, length_moved}

-- a memory with others written over so many entries from a place on
abbrev pub written : {X : Type 0} → ℕ → ℕ → List X → List X → List X
written place count others xs = take place xs ++ (others ++ drop count (drop place xs))

-- a list with so many first entries behind the others
abbrev pub rotated : {X : Type 0} → ℕ → List X → List X
rotated count xs = drop count xs ++ take count xs

-- a memory in which so many entries from a place on went behind the others that lie before an end
abbrev pub turned : {X : Type 0} → ℕ → ℕ → ℕ → List X → List X
turned place count end xs = written place (end - place) (rotated count (part place (end - place) xs)) xs

-- k is how many count
pub front_same : {X : Type 0} (n k : ℕ) (xs : List X) → k ≡ length (take n xs) → take k xs ≡ take n xs
front_same n k xs e =
    ⊎_elim (λ h. ap (λ m. take m xs) (e ∙ length-take-le n xs (omega arith)))
    (λ h. take_all k xs (omega (arith, e ∙ ap length (take_all n xs h))) ∙ sym (take_all n xs h))
    (cases_lt n (length xs))

-- those that count are put anew
pub front_anew : {X : Type 0} (n k : ℕ) (xs ys : List X) → k ≡ length (take n xs) → length ys ≡ k → take n (ys ++ drop k xs) ≡ ys
front_anew n k xs ys e long =
    ⊎_elim (λ h. take_at ys (drop k xs) n (long ∙ e ∙ length-take-le n xs (omega arith)))
    (λ h.
    let all : k ≡ length xs = e ∙ ap length (take_all n xs h) in
    ap (λ s. take n (ys ++ s)) (drop_all k xs (omega arith)) ∙ ap (take n) (append-nil ys) ∙ take_all n ys (omega arith))
    (cases_lt n (length xs))

-- the entries before the end are moved, the others stay
pub turned_is : {X : Type 0} (place count end : ℕ) (xs : List X) → place + count ≤ end → turned place count end xs ≡ moved place count (take end xs) ++ drop end xs
turned_is place count end xs within =
    let whole : place + (end - place) ≡ end = omega arith in
    let mid : part place (end - place) xs ≡ drop place (take end xs) = sym (drop-take place (end - place) xs) ∙ ap (λ m. drop place (take m xs)) whole in
    let front : take place xs ≡ take place (take end xs) = sym (take-take place end xs (omega arith)) in
    let back : drop (end - place) (drop place xs) ≡ drop end xs = drop-drop (end - place) place xs ∙ ap (λ m. drop m xs) whole in
    let behind : rotated count (part place (end - place) xs) ≡ drop (place + count) (take end xs) ++ part place count (take end xs) =
    ap (rotated count) mid ∙ ap (λ s. s ++ part place count (take end xs)) (drop-drop count place (take end xs)) in
    ap (λ s. s ++ (rotated count (part place (end - place) xs) ++ drop (end - place) (drop place xs))) front
    ∙ ap (λ s. take place (take end xs) ++ (rotated count (part place (end - place) xs) ++ s)) back
    ∙ ap (λ s. take place (take end xs) ++ (s ++ drop end xs)) behind
    ∙ simp append_assoc

-- k of the memory's entries count, and so many of them from a place on went behind the others
pub front_moved : {X : Type 0} (place count n k : ℕ) (xs : List X) → k ≡ length (take n xs) → place + count ≤ k → take n (turned place count k xs) ≡ moved place count (take n xs)
front_moved place count n k xs e fits =
    let same = front_same n k xs e in
    ap (take n) (turned_is place count k xs fits ∙ ap (λ s. moved place count s ++ drop k xs) same)
    ∙ front_anew n k xs (moved place count (take n xs)) e (length_moved place count (take n xs) (omega arith) ∙ sym e)

-- and then they no longer count
pub front_without : {X : Type 0} (place count n k : ℕ) (xs : List X) → k ≡ length (take n xs) → place + count ≤ k → take (k - count) (turned place count k xs) ≡ without place count (take n xs)
front_without place count n k xs e fits =
    let h = take n xs in
    ap (take (k - count)) (turned_is place count k xs fits ∙ ap (λ s. moved place count s ++ drop k xs) (front_same n k xs e) ∙ append_assoc (without place count h) (part place count h) (drop k xs))
    ∙ take_at (without place count h) (part place count h ++ drop k xs) (k - count) (omega (arith, length_without place count h (omega arith)))

-- so it is of a list of which a part went behind the rest, and then counts no longer
pub front_fewer : {X : Type 0} (place count n : ℕ) (xs h : List X) → n ≤ length xs → place + count ≤ length h → take n xs ≡ moved place count h → take (n - count) xs ≡ without place count h
front_fewer place count n xs h long fits e =
    sym (take-take (n - count) n xs (omega arith))
    ∙ ap (take (n - count)) e
    ∙ take_at (without place count h) (part place count h) (n - count) (omega (arith, length_without place count h fits, length_moved place count h fits, ap length e, length-take-le n xs long))

-- others of the same number were written from a place on
pub front_spliced : {X : Type 0} (place count n k : ℕ) (xs ys : List X) → k ≡ length (take n xs) → place + count ≤ k → length ys ≡ count → take n (written place count ys xs) ≡ spliced place count ys (take n xs)
front_spliced place count n k xs ys e fits long =
    let h = take n xs in
    let cut : h ++ drop k xs ≡ xs = ap (λ s. s ++ drop k xs) (sym (front_same n k xs e)) ∙ take-append-drop k xs in
    let tail : drop count (drop place xs) ≡ drop (place + count) h ++ drop k xs = drop-drop count place xs ∙ ap (drop (place + count)) (sym cut) ∙ drop-append-le (place + count) h (drop k xs) (omega arith) in
    let front : take place xs ≡ take place h = ap (take place) (sym cut) ∙ take-append-le place h (drop k xs) (omega arith) in
    let whole : written place count ys xs ≡ spliced place count ys h ++ drop k xs =
    ap (λ s. s ++ (ys ++ drop count (drop place xs))) front ∙ ap (λ s. take place h ++ (ys ++ s)) tail ∙ simp append_assoc in
    ap (take n) whole
    ∙ front_anew n k xs (spliced place count ys h) e
    (omega (arith, length-append (take place h) (ys ++ drop (place + count) h), length-append ys (drop (place + count) h), length-take-le place h (omega arith), length-drop (place + count) h))

-- the tail behind a range was copied to leave another room there
pub front_resized : {X : Type 0} (place old new n k : ℕ) (xs : List X) → k ≡ length (take n xs) → place + old ≤ k → k - old + new ≤ length xs → take (place + new + (k - (place + old))) (paste xs (place + new) (drop (place + old) xs) (k - (place + old))) ≡ spliced place old (part place new xs) (take n xs)
front_resized place old new n k xs e fits room =
    let h = take n xs in
    let m : ℕ = k - (place + old) in
    let cut : h ++ drop k xs ≡ xs = ap (λ s. s ++ drop k xs) (sym (front_same n k xs e)) ∙ take-append-drop k xs in
    let tail : take m (drop (place + old) xs) ≡ drop (place + old) h =
    sym (drop-take (place + old) m xs) ∙ ap (λ j. drop (place + old) (take j xs)) (omega arith) ∙ ap (drop (place + old)) (front_same n k xs e) in
    let front : take place xs ≡ take place h = ap (take place) (sym cut) ∙ take-append-le place h (drop k xs) (omega arith) in
    take-paste xs (place + new) (drop (place + old) xs) m (omega arith) (omega (arith, length-drop (place + old) xs, length-take n xs))
    ∙ ap (λ s. take (place + new) xs ++ s) tail
    ∙ ap (λ s. s ++ drop (place + old) h) (take-add place new xs ∙ ap (λ s. s ++ part place new xs) front)
    ∙ append_assoc (take place h) (part place new xs) (drop (place + old) h)

-- an entry among those that count was put anew
pub front_set : {X : Type 0} (n i : ℕ) (xs : List X) (x : X) → i < n → take n (set xs i x) ≡ set (take n xs) i x
front_set n i xs x there = take-set-lt n xs i x there

-- others were written over so many of those that count
pub front_laid : {X : Type 0} (place count n : ℕ) (xs ys b : List X) → n ≤ length xs → place + length b ≤ n → count ≡ length b → ys ≡ b → take n (written place count ys xs) ≡ laid (take n xs) place b
front_laid place count n xs ys b all fits k e =
    front_spliced place count n n xs ys (sym (length-take-le n xs all)) (omega arith) (ap length e ∙ sym k)
    ∙ ap (λ m. spliced place m ys (take n xs)) k
    ∙ ap (λ y. spliced place (length b) y (take n xs)) e
