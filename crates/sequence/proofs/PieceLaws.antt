-- What becomes of pieces laid end to end where one of them is replaced, taken out, moved behind the others or added.
use Rattle.std.proofs.Common.{◌≡◌, ℕ, suc, ◌+◌, ◌<◌, ◌≤◌, leb, List, [], ◌∷◌, ◌++◌, map, length, take, drop, set, Some, None, sum_by, sum, Option, Ok, sym, refl, ap, ◌∙◌, add-one, arith}
use Rattle.std.proofs.lemmas.List.{append-nil, length-append, take_all, drop_all, take_at, drop_at, drop-drop, drop_more, set_split, take-append-drop, take-set, length-set, get_or-set_same, length_push, get_or_push, take-map}
use Rattle.std.proofs.lemmas.List.Concat.{length-flat_map}
use Rattle.std.proofs.lemmas.Grind.{flat_map-append}
use Rattle.std.proofs.lemmas.List.Sums.{sum-map}
use Rattle.std.proofs.lemmas.Bool.{le-leb, cond-true}
use Rattle.sequence.specs.Parts.{part, spliced, without, moved, removed, raised}
use Rattle.sequence.specs.Answers.{range_answer, view_answer}
use Rattle.sequence.specs.Pieces.{joined, place_of, piece_at, Lies}

-- a list that is a front, a part and a tail
spliced_at : {X : Type 0} (a b c others : List X) (place count : ℕ) → length a ≡ place → length b ≡ count → spliced place count others (a ++ (b ++ c)) ≡ a ++ (others ++ c)
spliced_at a b c others place count m k =
    let tail : drop (place + count) (a ++ (b ++ c)) ≡ c = sym (drop-drop count place (a ++ (b ++ c))) ∙ ap (drop count) (drop_at a (b ++ c) place m) ∙ drop_at b c count k in
    ap (λ s. s ++ (others ++ drop (place + count) (a ++ (b ++ c)))) (take_at a (b ++ c) place m) ∙ ap (λ s. a ++ (others ++ s)) tail

part_at : {X : Type 0} (a b c : List X) (place count : ℕ) → length a ≡ place → length b ≡ count → part place count (a ++ (b ++ c)) ≡ b
part_at a b c place count m k = ap (take count) (drop_at a (b ++ c) place m) ∙ take_at b c count k

-- the pieces before the one at n, that one, and those behind it
pub pieces_split : {X : Type 0} (ps : List (List X)) (n : ℕ) → n < length ps → joined ps ≡ joined (take n ps) ++ (piece_at n ps ++ joined (drop (n + 1) ps))
pieces_split ps n l =
    ap joined (sym (take-append-drop n ps)) ∙ flat_map-append (λ p. p) (take n ps) (drop n ps) ∙ ap (λ s. joined (take n ps) ++ joined s) (drop_more ps n [] l)

pub lies_split : {X : Type 0} (ps : List (List X)) (n : ℕ) (h : List X) (place count : ℕ) → Lies ps n h place count → h ≡ joined (take n ps) ++ (piece_at n ps ++ joined (drop (n + 1) ps))
lies_split ps n h place count l = sym l.whole ∙ pieces_split ps n l.there

pub lies_within : {X : Type 0} (ps : List (List X)) (n : ℕ) (h : List X) (place count : ℕ) → Lies ps n h place count → place + count ≤ length h
lies_within ps n h place count l =
    let a = joined (take n ps) in
    let b = piece_at n ps in
    let c = joined (drop (n + 1) ps) in
    omega (arith, ap length (lies_split ps n h place count l), length-append a (b ++ c), length-append b c, length-flat_map (λ p. p) (take n ps), l.begins, l.long)

pub pieces_spliced : {X : Type 0} (ps : List (List X)) (n : ℕ) (h : List X) (place count : ℕ) (others : List X) → Lies ps n h place count → spliced place count others h ≡ joined (set ps n others)
pieces_spliced ps n h place count others l =
    ap (spliced place count others) (lies_split ps n h place count l)
    ∙ spliced_at (joined (take n ps)) (piece_at n ps) (joined (drop (n + 1) ps)) others place count (length-flat_map (λ p. p) (take n ps) ∙ sym l.begins) (sym l.long)
    ∙ ap (λ k. joined (take n ps) ++ (others ++ joined (drop k ps))) (add-one n)
    ∙ sym (flat_map-append (λ p. p) (take n ps) (others ∷ drop (suc n) ps))
    ∙ ap joined (sym (set_split ps n others l.there))

pub pieces_without : {X : Type 0} (ps : List (List X)) (n : ℕ) (h : List X) (place count : ℕ) → Lies ps n h place count → without place count h ≡ joined (removed n ps)
pieces_without ps n h place count l =
    ap (without place count) (lies_split ps n h place count l)
    ∙ spliced_at (joined (take n ps)) (piece_at n ps) (joined (drop (n + 1) ps)) [] place count (length-flat_map (λ p. p) (take n ps) ∙ sym l.begins) (sym l.long)
    ∙ sym (flat_map-append (λ p. p) (take n ps) (drop (n + 1) ps))

pub pieces_part : {X : Type 0} (ps : List (List X)) (n : ℕ) (h : List X) (place count : ℕ) → Lies ps n h place count → part place count h ≡ piece_at n ps
pieces_part ps n h place count l =
    ap (part place count) (lies_split ps n h place count l)
    ∙ part_at (joined (take n ps)) (piece_at n ps) (joined (drop (n + 1) ps)) place count (length-flat_map (λ p. p) (take n ps) ∙ sym l.begins) (sym l.long)

pub pieces_moved : {X : Type 0} (ps : List (List X)) (n : ℕ) (h : List X) (place count : ℕ) → Lies ps n h place count → moved place count h ≡ joined (raised n ps)
pieces_moved ps n h place count l =
    ap (λ s. s ++ part place count h) (pieces_without ps n h place count l)
    ∙ ap (λ s. joined (removed n ps) ++ s) (pieces_part ps n h place count l ∙ sym (append-nil (piece_at n ps)) ∙ ap (λ s. joined (take 1 s)) (sym (drop_more ps n [] l.there)))
    ∙ sym (flat_map-append (λ p. p) (removed n ps) (part n 1 ps))

pub pieces_added : {X : Type 0} (ps : List (List X)) (h : List X) (place : ℕ) (count : ℕ) (others : List X) → joined ps ≡ h → place ≡ length h → spliced place count others h ≡ joined (ps ++ others ∷ [])
pieces_added ps h place count others e p =
    ap (λ s. s ++ (others ++ drop (place + count) h)) (take_all place h (omega arith) ∙ sym e)
    ∙ ap (λ s. joined ps ++ (others ++ s)) (drop_all (place + count) h (omega arith))
    ∙ sym (flat_map-append (λ p. p) ps (others ∷ []))

-- a range where a piece lies is not refused
pub lies_told : {X : Type 0} (ps : List (List X)) (n : ℕ) (h : List X) (place count : ℕ) → Lies ps n h place count → range_answer place count (length h) ≡ Ok tt
lies_told ps n h place count l =
    cond-true (leb (place + count) (length h)) _ _ (le-leb (place + count) (length h) (lies_within ps n h place count l))

-- a range that is told where it lies within the entries
pub piece_told : {X : Type 0} (h : List X) (place count : ℕ) (told : Option (List X)) → told ≡ view_answer place count h → (ps : List (List X)) (n : ℕ) → Lies ps n h place count → told ≡ Some (piece_at n ps)
piece_told h place count told e ps n l =
    e ∙ cond-true (leb (place + count) (length h)) (Some (part place count h)) None (le-leb (place + count) (length h) (lies_within ps n h place count l)) ∙ ap Some (pieces_part ps n h place count l)

-- a piece that was put anew or added lies where it should
pub lies_anew : {X : Type 0} (ps : List (List X)) (n : ℕ) (h after : List X) (place old count : ℕ) (p : List X) → Lies ps n h place old → after ≡ joined (set ps n p) → count ≡ length p → Lies (set ps n p) n after place count
lies_anew ps n h after place old count p l e long =
    record {
      there = simp length-set l.there;
      whole = sym e;
      begins = l.begins ∙ ap (sum_by length) (sym (take-set ps n p));
      long = long ∙ ap length (sym (get_or-set_same ps n p [] l.there));
    }

pub lies_added : {X : Type 0} (ps : List (List X)) (h after : List X) (place count : ℕ) (p : List X) → joined ps ≡ h → place ≡ length h → after ≡ joined (ps ++ p ∷ []) → count ≡ length p → Lies (ps ++ p ∷ []) (length ps) after place count
lies_added ps h after place count p whole at e long =
    record {
      there = omega (arith, length_push ps p);
      whole = sym e;
      begins = at ∙ ap length (sym whole) ∙ length-flat_map (λ p. p) ps ∙ ap (sum_by length) (sym (take_at ps (p ∷ []) (length ps) refl));
      long = long ∙ ap length (sym (get_or_push ps p [] (length ps) refl));
    }

-- a table of lengths tells the same places
pub place_of_from : {X Y : Type 0} (f : X → ℕ) (xs : List X) (ps : List (List Y)) (n : ℕ) → map f xs ≡ map length ps → sum_by f (take n xs) ≡ place_of n ps
place_of_from f xs ps n e =
    sym (sum-map f (take n xs)) ∙ ap sum (sym (take-map f n xs) ∙ ap (take n) e ∙ take-map length n ps) ∙ sum-map length (take n ps)
