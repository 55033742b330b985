-- The laws of the flow, from what holds of its words one after another.
use Rattle.std.proofs.Common.{◌≡◌, ℕ, ◌+◌, ◌-◌, ◌<◌, ◌≤◌, Bool, true, false, cond, ◌&&◌, ltb, leb, ◌⊎◌, List, [], ◌∷◌, ◌++◌, map, length, refl, ap, ◌∙◌, inl, inr, ⊎_elim, arith}
use Rattle.std.specs.List.{AllByRecursion}
use Rattle.std.proofs.ByRecursion.{All-append, All-weaker}
use Rattle.std.proofs.lemmas.Bool.{and_from, and_parts, cond_both, le-leb, leb-true, lt-ltb, ltb-true}
use Rattle.wrap.specs.declared.classes.CharacterClass.{CharacterClass}
use Rattle.wrap.specs.declared.classes.CharacterClass.TheVariants.{Blank, LineFeed, Ink}
use Rattle.wrap.specs.Classes.{class_of, by_class, take_ink, ink_of}
use Rattle.wrap.specs.Flow.{WordAt, Glyph, put, behind, words, spread, printed, flow_of, all_fit}
use Rattle.wrap.specs.Laws.{Inside, Before, Apart, Pairwise, FitsInside, ReadingOrder, OneToACell, InkInOrder}

-- a place is not before a row and a column, reading row by row
abbrev pub From : ℕ → ℕ → ℕ → ℕ → Type 0
From r k row column = (r ≤ row) × (r ≡ row → k ≤ column)

-- some ink that ends within the width or begins its row
abbrev pub WellPut : ℕ → WordAt → Type 0
WellPut w x = (1 ≤ length x.characters) × ((behind x ≤ w) ⊎ (x.column ≡ 0))

-- well-put words, each behind the one before it
abbrev pub Chain : ℕ → ℕ → ℕ → List WordAt → Type 0
Chain w r k [] = Unit {0}
Chain w r k (x ∷ xs) = From r k x.row x.column × WellPut w x × Chain w x.row (behind x) xs

from_trans : (a b c d e f : ℕ) → From a b c d → From c d e f → From a b e f
from_trans a b c d e f p q = (omega (arith, p.0, q.0), λ s. let h : a ≡ c = omega (arith, p.0, q.0) in let i : c ≡ e = omega (arith, p.0, q.0) in omega (arith, p.1 h, q.1 i))

weaken : (w a b r k : ℕ) (xs : List WordAt) → From a b r k → Chain w r k xs → Chain w a b xs
weaken w a b r k [] f c = tt
weaken w a b r k (x ∷ xs) f c = (from_trans a b r k x.row x.column f c.0, c.1, c.2)

put_well : (w r k : ℕ) (word : List ℕ) → 1 ≤ length word → From r k (put w r k word).row (put w r k word).column × WellPut w (put w r k word)
put_well w r k word h =
    cond_both (leb (length word) (w - k)) (record { row = r; column = k; characters = word }) (record { row = r + 1; column = 0; characters = word }) (λ (x : WordAt). From r k x.row x.column × WellPut w x)
    (λ e. ((omega arith, λ s. omega arith), (h, inl (omega (arith, leb-true (length word) (w - k) e)))))
    (λ e. ((omega arith, λ s. absurd (omega arith)), (h, inr refl)))

stepped : (w r k : ℕ) → From r k r (cond (ltb k w) (k + 1) k)
stepped w r k = cond_both (ltb k w) (k + 1) k (λ (n : ℕ). From r k r n) (λ e. (omega arith, λ s. omega arith)) (λ e. (omega arith, λ s. omega arith))

-- the words of a text follow one another
chain_step : (w : ℕ) (i : Bool) (r k c : ℕ) (cs : List ℕ) (class : CharacterClass) → ((i : Bool) (r k : ℕ) → Chain w r k (words w i r k cs)) → Chain w r k (by_class class (words w false r (cond (ltb k w) (k + 1) k) cs) (words w false (r + 1) 0 cs) (cond i (words w true r k cs) (put w r k (c ∷ take_ink cs) ∷ words w true (put w r k (c ∷ take_ink cs)).row (behind (put w r k (c ∷ take_ink cs))) cs)))
chain_step w i r k c cs Blank ih = weaken w r k r (cond (ltb k w) (k + 1) k) (words w false r (cond (ltb k w) (k + 1) k) cs) (stepped w r k) (ih false r (cond (ltb k w) (k + 1) k))
chain_step w i r k c cs LineFeed ih = weaken w r k (r + 1) 0 (words w false (r + 1) 0 cs) (omega arith, λ s. absurd (omega arith)) (ih false (r + 1) 0)
chain_step w true r k c cs Ink ih = ih true r k
chain_step w false r k c cs Ink ih =
    let x : WordAt = put w r k (c ∷ take_ink cs) in
    let p = put_well w r k (c ∷ take_ink cs) (omega arith) in
    (p.0, p.1, ih true x.row (behind x))

pub chain : (w : ℕ) (i : Bool) (r k : ℕ) (cs : List ℕ) → Chain w r k (words w i r k cs)
chain w i r k [] = tt
chain w i r k (c ∷ cs) = chain_step w i r k c cs (class_of c) (λ i r k. chain w i r k cs)

-- a word inside a rectangle
spread_inside : (h w r k : ℕ) (cs : List ℕ) → r < h → k + length cs ≤ w → AllByRecursion (Inside h w) (spread r k cs)
spread_inside h w r k [] p q = tt
spread_inside h w r k (c ∷ cs) p q = ((p, omega arith), spread_inside h w r (k + 1) cs p (omega arith))

inside_spread : (h w r k c : ℕ) (cs : List ℕ) → AllByRecursion (Inside h w) (spread r k (c ∷ cs)) → (r < h) × (k + 1 + length cs ≤ w)
inside_spread h w r k c [] p = (p.0.0, omega (arith, p.0.1))
inside_spread h w r k c (d ∷ cs) p = let q = inside_spread h w r (k + 1) d cs p.1 in (q.0, omega (arith, q.1))

inside_word : (h w r k : ℕ) (cs : List ℕ) → 1 ≤ length cs → AllByRecursion (Inside h w) (spread r k cs) → (r < h) × (k + length cs ≤ w)
inside_word h w r k [] l p = absurd (omega arith)
inside_word h w r k (c ∷ cs) l p = let q = inside_spread h w r k c cs p in (q.0, omega (arith, q.1))

all_parts : {X : Type 0} (P : X → Type 0) (xs ys : List X) → AllByRecursion P (xs ++ ys) → AllByRecursion P xs × AllByRecursion P ys
all_parts P [] ys a = (tt, a)
all_parts P (x ∷ xs) ys a = let p = all_parts P xs ys a.1 in ((a.0, p.0), p.1)

fit_inside : (h w r k : ℕ) (xs : List WordAt) → Chain w r k xs → all_fit h w xs ≡ true → AllByRecursion (Inside h w) (printed xs)
fit_inside h w r k [] c f = tt
fit_inside h w r k (x ∷ xs) c f =
    let p = and_parts (leb (length x.characters) w && ltb x.row h) (all_fit h w xs) f in
    let q = and_parts (leb (length x.characters) w) (ltb x.row h) p.0 in
    let long : length x.characters ≤ w = leb-true (length x.characters) w q.0 in
    All-append (Inside h w) (spread x.row x.column x.characters) (printed xs)
    (spread_inside h w x.row x.column x.characters (ltb-true x.row h q.1) (⊎_elim (λ e. e) (λ e. omega arith) c.1.1))
    (fit_inside h w x.row (behind x) xs c.2 p.1)

inside_fit : (h w r k : ℕ) (xs : List WordAt) → Chain w r k xs → AllByRecursion (Inside h w) (printed xs) → all_fit h w xs ≡ true
inside_fit h w r k [] c a = refl
inside_fit h w r k (x ∷ xs) c a =
    let p = all_parts (Inside h w) (spread x.row x.column x.characters) (printed xs) a in
    let q = inside_word h w x.row x.column x.characters c.1.0 p.0 in
    and_from (leb (length x.characters) w && ltb x.row h) (all_fit h w xs)
    (and_from (leb (length x.characters) w) (ltb x.row h) (le-leb (length x.characters) w (omega (arith, q.1))) (lt-ltb x.row h q.0))
    (inside_fit h w x.row (behind x) xs c.2 p.1)

pub fits_inside : FitsInside
fits_inside h w cs = let c = chain w false 0 0 cs in (fit_inside h w 0 0 (words w false 0 0 cs) c, inside_fit h w 0 0 (words w false 0 0 cs) c)

-- reading order
abbrev FromAt : ℕ → ℕ → Glyph → Type 0
FromAt r k g = From r k g.row g.column

spread_from : (a b r k : ℕ) (cs : List ℕ) → From a b r k → AllByRecursion (FromAt a b) (spread r k cs)
spread_from a b r k [] f = tt
spread_from a b r k (c ∷ cs) f = (f, spread_from a b r (k + 1) cs (f.0, λ s. omega (arith, f.1 s)))

printed_from : (w r k : ℕ) (xs : List WordAt) → Chain w r k xs → AllByRecursion (FromAt r k) (printed xs)
printed_from w r k [] c = tt
printed_from w r k (x ∷ xs) c =
    All-append (FromAt r k) (spread x.row x.column x.characters) (printed xs) (spread_from r k x.row x.column x.characters c.0)
    (All-weaker (FromAt x.row (behind x)) (FromAt r k) (λ g f. from_trans r k x.row (behind x) g.row g.column (c.0.0, λ s. omega (arith, c.0.1 s)) f) (printed xs) (printed_from w x.row (behind x) xs c.2))

spread_order : (r k : ℕ) (cs : List ℕ) (gs : List Glyph) → AllByRecursion (FromAt r (k + length cs)) gs → Pairwise Before gs → Pairwise Before (spread r k cs ++ gs)
spread_order r k [] gs a p = p
spread_order r k (c ∷ cs) gs a p =
    let g : Glyph = record { row = r; column = k; character = c } in (
      All-append (Before g) (spread r (k + 1) cs) gs
          (All-weaker (FromAt r (k + 1)) (Before g) (λ o f. (f.0, λ s. omega (arith, f.1 s))) (spread r (k + 1) cs) (spread_from r (k + 1) r (k + 1) cs (omega arith, λ s. omega arith)))
          (All-weaker (FromAt r (k + length (c ∷ cs))) (Before g) (λ o f. (f.0, λ s. omega (arith, f.1 s))) gs a),
      spread_order r (k + 1) cs gs (All-weaker (FromAt r (k + length (c ∷ cs))) (FromAt r (k + 1 + length cs)) (λ o f. (f.0, λ s. omega (arith, f.1 s))) gs a) p,
    )

printed_order : (w r k : ℕ) (xs : List WordAt) → Chain w r k xs → Pairwise Before (printed xs)
printed_order w r k [] c = tt
printed_order w r k (x ∷ xs) c = spread_order x.row x.column x.characters (printed xs) (printed_from w x.row (behind x) xs c.2) (printed_order w x.row (behind x) xs c.2)

pub reading_order : ReadingOrder
reading_order w cs = printed_order w 0 0 (words w false 0 0 cs) (chain w false 0 0 cs)

pairwise_weaker : {X : Type 0} (R S : X → X → Type 0) → ((x y : X) → R x y → S x y) → (xs : List X) → Pairwise R xs → Pairwise S xs
pairwise_weaker R S f [] p = tt
pairwise_weaker R S f (x ∷ xs) p = (All-weaker (R x) (S x) (f x) xs p.0, pairwise_weaker R S f xs p.1)

pub one_to_a_cell : OneToACell
one_to_a_cell w cs = pairwise_weaker Before Apart (λ g h b e f. absurd (omega (arith, b.1 e))) (flow_of w cs) (reading_order w cs)

-- the ink
abbrev characters_of : List WordAt → List ℕ
characters_of [] = []
characters_of (x ∷ xs) = x.characters ++ characters_of xs

spread_characters : (r k : ℕ) (cs : List ℕ) (gs : List Glyph) → map (λ g. g.character) (spread r k cs ++ gs) ≡ cs ++ map (λ g. g.character) gs
spread_characters r k [] gs = refl
spread_characters r k (c ∷ cs) gs = ap (λ zs. c ∷ zs) (spread_characters r (k + 1) cs gs)

printed_characters : (xs : List WordAt) → map (λ g. g.character) (printed xs) ≡ characters_of xs
printed_characters [] = refl
printed_characters (x ∷ xs) = spread_characters x.row x.column x.characters (printed xs) ∙ ap (λ zs. x.characters ++ zs) (printed_characters xs)

pub put_characters : (w r k : ℕ) (word : List ℕ) → (put w r k word).characters ≡ word
put_characters w r k word = cond_both (leb (length word) (w - k)) (record { row = r; column = k; characters = word }) (record { row = r + 1; column = 0; characters = word }) (λ (x : WordAt). x.characters ≡ word) (λ e. refl) (λ e. refl)

-- outside a word all ink is to come, inside one what stands behind its rest
abbrev InkOf : ℕ → ℕ → ℕ → List ℕ → Type 0
InkOf w r k cs = (characters_of (words w false r k cs) ≡ ink_of cs) × (take_ink cs ++ characters_of (words w true r k cs) ≡ ink_of cs)

ink_step : (w r k c : ℕ) (cs : List ℕ) (class : CharacterClass) → ((r k : ℕ) → InkOf w r k cs) →
    (characters_of (by_class class (words w false r (cond (ltb k w) (k + 1) k) cs) (words w false (r + 1) 0 cs) (put w r k (c ∷ take_ink cs) ∷ words w true (put w r k (c ∷ take_ink cs)).row (behind (put w r k (c ∷ take_ink cs))) cs)) ≡ by_class class (ink_of cs) (ink_of cs) (c ∷ ink_of cs))
    × (by_class class [] [] (c ∷ take_ink cs) ++ characters_of (by_class class (words w false r (cond (ltb k w) (k + 1) k) cs) (words w false (r + 1) 0 cs) (words w true r k cs)) ≡ by_class class (ink_of cs) (ink_of cs) (c ∷ ink_of cs))
ink_step w r k c cs Blank ih = ((ih r (cond (ltb k w) (k + 1) k)).0, (ih r (cond (ltb k w) (k + 1) k)).0)
ink_step w r k c cs LineFeed ih = ((ih (r + 1) 0).0, (ih (r + 1) 0).0)
ink_step w r k c cs Ink ih =
    let x : WordAt = put w r k (c ∷ take_ink cs) in
    (ap (λ zs. zs ++ characters_of (words w true x.row (behind x) cs)) (put_characters w r k (c ∷ take_ink cs)) ∙ ap (λ zs. c ∷ zs) (ih x.row (behind x)).1, ap (λ zs. c ∷ zs) (ih r k).1)

ink : (w r k : ℕ) (cs : List ℕ) → InkOf w r k cs
ink w r k [] = (refl, refl)
ink w r k (c ∷ cs) = ink_step w r k c cs (class_of c) (λ r k. ink w r k cs)

pub ink_in_order : InkInOrder
ink_in_order w cs = printed_characters (words w false 0 0 cs) ∙ (ink w 0 0 cs).0
