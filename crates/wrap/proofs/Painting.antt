-- Printing into a grid, character by character and word by word, and the laws of pictures.
use Rattle.std.proofs.Common.{◌≡◌, ℕ, ◌+◌, ◌-◌, ◌*◌, ◌<◌, ◌≤◌, Bool, true, false, cond, ◌&&◌, eqb, List, [], ◌∷◌, ◌++◌, length, replicate, get_or, take, drop, Some, None, sym, refl, ap, ◌∙◌, subst, ⊎_elim, arith}
use borrow.Rule.Slice.PartMut.{put_mid}
use Rattle.std.proofs.lemmas.List.{drop-drop, get_or-append_right, get_or_append_left, get_or-drop, get_or-replicate, get_or-take, length-replicate, length-take-le}
use Rattle.std.proofs.lemmas.Bool.{cases_lt}
use Rattle.std.proofs.lemmas.Bool.Decides.{nat_tests}
use Rattle.std.specs.List.{AllByRecursion}
use Rattle.std.proofs.lemmas.Bool.{cond-true, cond-false}
use Rattle.page.specs.declared.cell.Cell.{Cell}
use Rattle.page.specs.Cells.{blank}
use Rattle.text_code.specs.declared.codes.Decoded.{Decoded}
use Rattle.wrap.specs.declared.cursor.Word.{Word}
use Rattle.wrap.specs.declared.grid.Grid.{Grid}
use Rattle.field.specs.Areas.{Area, covers}
use Rattle.field.specs.Fields.{Field}
use Rattle.wrap.specs.Flow.{Glyph, blank_in, flow_of, over, printed, spread, words}
use Rattle.wrap.specs.Pictures.{AddedLast, Changed, Kept, LastShows, NoneShowsBlank, all_over, field_shows, fill, grid_cell, paint, picture, printed_over}
use Rattle.wrap.specs.Sources.{ReadAs}
use Rattle.wrap.specs.Walking.{Arrived}

over_append : (f r k : ℕ) (gs hs : List Glyph) (cell : Cell) → over f r k (gs ++ hs) cell ≡ over f r k hs (over f r k gs cell)
over_append f r k [] hs cell = refl
over_append f r k (g ∷ gs) hs cell = over_append f r k gs hs (cond (eqb g.row r && eqb g.column k) (record { character = g.character; formatting = f }) cell)

append_at : (b : Bool) (f r k : ℕ) (gs hs : List Glyph) (cell : Cell) → cond b (over f r k (gs ++ hs) cell) cell ≡ cond b (over f r k hs (cond b (over f r k gs cell) cell)) (cond b (over f r k gs cell) cell)
append_at true f r k gs hs cell = over_append f r k gs hs cell
append_at false f r k gs hs cell = refl

pub paint_append : (a : Area) (f : ℕ) (gs hs : List Glyph) (l c : ℕ) (cell : Cell) → paint a f (gs ++ hs) l c cell ≡ paint a f hs l c (paint a f gs l c cell)
paint_append a f gs hs l c cell = append_at (covers a l c) f (l - a.line) (c - a.column) gs hs cell

none_at : (b : Bool) (cell : Cell) → cond b cell cell ≡ cell
none_at true cell = refl
none_at false cell = refl

pub paint_none : (a : Area) (f l c : ℕ) (cell : Cell) → paint a f [] l c cell ≡ cell
paint_none a f l c cell = none_at (covers a l c) cell

pub paint_kept : (a : Area) (f : ℕ) (gs : List Glyph) (was now : Grid) → Changed was now (paint a f gs) → Kept a was now
paint_kept a f gs was now h l c p q e = h l c p q ∙ cond-false (covers a l c) (over f (l - a.line) (c - a.column) gs (grid_cell was l c)) (grid_cell was l c) e

pub fill_kept : (a : Area) (cell : Cell) (was now : Grid) → Changed was now (fill a cell) → Kept a was now
fill_kept a cell was now h l c p q e = h l c p q ∙ cond-false (covers a l c) cell (grid_cell was l c) e

-- a part of some cells set to one
cell_before : (cells part : List Cell) (a k i : ℕ) (d : Cell) → a ≤ length cells → i < a → get_or (put_mid a k cells part) i d ≡ get_or cells i d
cell_before cells part a k i d within h =
    get_or_append_left (take a cells) (part ++ drop k (drop a cells)) d i (omega (arith, length-take-le a cells within)) ∙ get_or-take a cells i d h

cell_in : (cells : List Cell) (a k i : ℕ) (cell d : Cell) → a ≤ length cells → a ≤ i → i < a + k → get_or (put_mid a k cells (replicate k cell)) i d ≡ cell
cell_in cells a k i cell d within low high =
    get_or-append_right (take a cells) (replicate k cell ++ drop k (drop a cells)) a i d (length-take-le a cells within) low
    ∙ get_or_append_left (replicate k cell) (drop k (drop a cells)) d (i - a) (omega (arith, length-replicate k cell))
    ∙ get_or-replicate k (i - a) cell d (omega arith)

cell_behind : (cells : List Cell) (a k i : ℕ) (cell d : Cell) → a ≤ length cells → a + k ≤ i → get_or (put_mid a k cells (replicate k cell)) i d ≡ get_or cells i d
cell_behind cells a k i cell d within h =
    get_or-append_right (take a cells) (replicate k cell ++ drop k (drop a cells)) a i d (length-take-le a cells within) (omega arith)
    ∙ get_or-append_right (replicate k cell) (drop k (drop a cells)) k (i - a) d (length-replicate k cell) (omega arith)
    ∙ ap (λ xs. get_or xs (i - a - k) d) (drop-drop k a cells)
    ∙ get_or-drop (a + k) cells (i - a - k) d
    ∙ ap (λ n. get_or cells n d) (omega arith)

-- the cells of one line from a column on
pub line_filled : (line column width : ℕ) (cell : Cell) (was now : Grid) → line < 15 → column + width ≤ 72 → length was.cells ≡ 1080 → now.cells ≡ put_mid (line * 72 + column) width was.cells (replicate width cell) → Changed was now (fill (record { line = line; column = column; height = 1; width = width }) cell)
line_filled line column width cell was now p q long e l c r s =
    let a : Area = record { line = line; column = column; height = 1; width = width } in
    let d : Cell = record { character = 0; formatting = 0 } in
    let first = line * 72 + column in
    let i = l * 72 + c in
    let within : first ≤ length was.cells = omega arith in
    ap (λ cells. get_or cells i d) e
    ∙ ⊎_elim (λ h. cell_before was.cells (replicate width cell) first width i d within h ∙ sym (cond-false (covers a l c) cell (grid_cell was l c) (grind (arith, nat_tests))))
    (λ h. ⊎_elim (λ k. cell_in was.cells first width i cell d within h k ∙ sym (cond-true (covers a l c) cell (grid_cell was l c) (grind (arith, nat_tests))))
    (λ k. cell_behind was.cells first width i cell d within k ∙ sym (cond-false (covers a l c) cell (grid_cell was l c) (grind (arith, nat_tests))))
    (cases_lt i (first + width)))
    (cases_lt i first)

pub kept_more : (a : Area) (g h i : Grid) → Kept a g h → Kept a h i → Kept a g i
kept_more a g h i k m l c p q e = m l c p q e ∙ k l c p q e

-- what is left to print gives the same cells as all of it at the start
abbrev pub SamePaint : Area → ℕ → List Glyph → Grid → List Glyph → Grid → Type 0
SamePaint a f left now all was = (l c : ℕ) → l < 15 → c < 72 → paint a f left l c (grid_cell now l c) ≡ paint a f all l c (grid_cell was l c)

pub same_more : (a : Area) (f : ℕ) (gs hs all : List Glyph) (was now next : Grid) → SamePaint a f (gs ++ hs) now all was → Changed now next (paint a f gs) → SamePaint a f hs next all was
same_more a f gs hs all was now next same h l c p q = ap (paint a f hs l c) (h l c p q) ∙ sym (paint_append a f gs hs l c (grid_cell now l c)) ∙ same l c p q

pub same_all : (a : Area) (f : ℕ) (all : List Glyph) (was now : Grid) → SamePaint a f [] now all was → Changed was now (paint a f all)
same_all a f all was now same l c p q = sym (paint_none a f l c (grid_cell now l c)) ∙ same l c p q

-- a word, character by character
pub record WordLeft (st : ℕ → List ℕ → Type 0) (a : Area) (f row column at place : ℕ) (cs rest : List ℕ) (was now : Grid) : Type 0 where
  pub left : List ℕ
  pub stands : st place (left ++ rest)
  pub long : at + length left ≡ length cs
  pub same : SamePaint a f (spread row (column + at) left) now (spread row column cs) was

pub word_start : (st : ℕ → List ℕ → Type 0) (a : Area) (f row column place : ℕ) (cs rest : List ℕ) (was : Grid) → st place (cs ++ rest) → WordLeft st a f row column 0 place cs rest was was
word_start st a f row column place cs rest was s =
    record { left = cs; stands = s; long = omega arith; same = let e : column + 0 ≡ column = omega arith in λ l c p q. ap (λ (k : ℕ). paint a f (spread row k cs) l c (grid_cell was l c)) e }

-- the next character of a word
record NextLeft (st : ℕ → List ℕ → Type 0) (place : ℕ) (d : Decoded) (left rest : List ℕ) : Type 0 where
  others : List ℕ
  parts : left ≡ d.character ∷ others
  stands : st (place + d.length) (others ++ rest)

next_left : (st : ℕ → List ℕ → Type 0) (place : ℕ) (d : Decoded) (left rest : List ℕ) → 0 < length left → ReadAs st place (left ++ rest) (Some d) → NextLeft st place d left rest
next_left st place d [] rest h r = absurd (omega arith)
next_left st place d (x ∷ left) rest h r = record { others = left; parts = ap (λ y. y ∷ left) (sym r.0); stands = r.1 }

pub word_more : (st : ℕ → List ℕ → Type 0) (a : Area) (f row column at place : ℕ) (cs rest : List ℕ) (was now next : Grid) (d : Decoded) → at < length cs → ((ds : List ℕ) → st place ds → ReadAs st place ds (Some d)) → Changed now next (paint a f (record { row = row; column = column + at; character = d.character } ∷ [])) → WordLeft st a f row column at place cs rest was now → WordLeft st a f row column (at + 1) (place + d.length) cs rest was next
word_more st a f row column at place cs rest was now next d h read changed w =
    let n = next_left st place d w.left rest (omega (arith, w.long)) (read (w.left ++ rest) w.stands) in
    let e : column + (at + 1) ≡ column + at + 1 = omega arith in
    record {
      left = n.others;
      stands = n.stands;
      long = omega (arith, w.long, ap length n.parts);
      same = subst (λ (k : ℕ). SamePaint a f (spread row k n.others) next (spread row column cs) was) (sym e)
          (same_more a f (record { row = row; column = column + at; character = d.character } ∷ []) (spread row (column + at + 1) n.others) (spread row column cs) was now next
          (subst (λ zs. SamePaint a f (spread row (column + at) zs) now (spread row column cs) was) n.parts w.same) changed);
    }

nothing : (xs : List ℕ) → length xs ≡ 0 → xs ≡ []
nothing [] e = refl
nothing (x ∷ xs) e = absurd (omega arith)

pub word_all : (st : ℕ → List ℕ → Type 0) (a : Area) (f row column at place : ℕ) (cs rest : List ℕ) (was now : Grid) → length cs ≤ at → WordLeft st a f row column at place cs rest was now → Changed was now (paint a f (spread row column cs))
word_all st a f row column at place cs rest was now e w =
    same_all a f (spread row column cs) was now (subst (λ zs. SamePaint a f (spread row (column + at) zs) now (spread row column cs) was) (nothing w.left (omega (arith, w.long))) w.same)

never_none : (st : ℕ → List ℕ → Type 0) (place : ℕ) (left rest : List ℕ) → 0 < length left → ReadAs st place (left ++ rest) None → ⊥
never_none st place [] rest h r = omega arith
never_none st place (x ∷ left) rest h r = r

pub word_ended : {P : Type 0} (st : ℕ → List ℕ → Type 0) (a : Area) (f row column at place : ℕ) (cs rest : List ℕ) (was now : Grid) → at < length cs → ((ds : List ℕ) → st place ds → ReadAs st place ds None) → WordLeft st a f row column at place cs rest was now → P
word_ended st a f row column at place cs rest was now h read w = absurd (never_none st place w.left rest (omega (arith, w.long)) (read (w.left ++ rest) w.stands))

-- a text, word by word
pub record TextLeft (st : ℕ → List ℕ → Type 0) (a : Area) (f place row column : ℕ) (cs : List ℕ) (was now : Grid) : Type 0 where
  pub rest : List ℕ
  pub stands : st place rest
  pub same : SamePaint a f (printed (words a.width false row column rest)) now (flow_of a.width cs) was

pub text_start : (st : ℕ → List ℕ → Type 0) (a : Area) (f place row column : ℕ) (cs : List ℕ) (was : Grid) → (place ≡ 0) × (row ≡ 0) × (column ≡ 0) → st 0 cs → TextLeft st a f place row column cs was was
text_start st a f place row column cs was e s = rw (e.0, e.1, e.2) (record { rest = cs; stands = s; same = λ l c p q. refl })

pub text_more : (st : ℕ → List ℕ → Type 0) (a : Area) (f place row column : ℕ) (cs : List ℕ) (was now next : Grid) (word : Word) (place' row' column' : ℕ) → place' ≡ word.end → row' ≡ word.row → column' ≡ word.column + word.length → (t : TextLeft st a f place row column cs was now) → Arrived st a.width (words a.width false row column t.rest) word → ((ds rest : List ℕ) → st word.start (ds ++ rest) → word.length ≡ length ds → Changed now next (paint a f (spread word.row word.column ds))) → TextLeft st a f place' row' column' cs was next
text_more st a f place row column cs was now next word place' row' column' e g i t w prints =
    rw (e, g, i) (record {
      rest = w.rest;
      stands = w.behind;
      same = same_more a f (spread word.row word.column w.characters) (printed (words a.width false word.row (word.column + word.length) w.rest)) (flow_of a.width cs) was now next
          (subst (λ ws. SamePaint a f (printed ws) now (flow_of a.width cs) was) w.parts t.same) (prints w.characters w.rest w.here w.long);
    })

field_at : (b : Bool) (f r k : ℕ) (gs : List Glyph) (new was : Cell) → cond b (over f r k gs (cond b new was)) (cond b new was) ≡ cond b (over f r k gs new) was
field_at true f r k gs new was = refl
field_at false f r k gs new was = refl

pub text_all : (st : ℕ → List ℕ → Type 0) (a : Area) (f place row column : ℕ) (cs : List ℕ) (first was now : Grid) → Changed first was (fill a (blank_in f)) → (t : TextLeft st a f place row column cs was now) → words a.width false row column t.rest ≡ [] → Changed first now (printed_over (record { area = a; formatting = f; characters = cs }))
text_all st a f place row column cs first was now filled t e l c p q =
    same_all a f (flow_of a.width cs) was now (subst (λ ws. SamePaint a f (printed ws) now (flow_of a.width cs) was) e t.same) l c p q
    ∙ ap (paint a f (flow_of a.width cs) l c) (filled l c p q)
    ∙ field_at (covers a l c) f (l - a.line) (c - a.column) (flow_of a.width cs) (blank_in f) (grid_cell first l c)

-- pictures
all_append : (xs ys : List Field) (l c : ℕ) (cell : Cell) → all_over (xs ++ ys) l c cell ≡ all_over ys l c (all_over xs l c cell)
all_append [] ys l c cell = refl
all_append (x ∷ xs) ys l c cell = all_append xs ys l c (printed_over x l c cell)

pub added_last : AddedLast
added_last xs x l c = all_append xs (x ∷ []) l c blank

all_kept : (xs : List Field) (l c : ℕ) (cell : Cell) → AllByRecursion (λ x. covers x.area l c ≡ false) xs → all_over xs l c cell ≡ cell
all_kept [] l c cell a = refl
all_kept (x ∷ xs) l c cell a = ap (all_over xs l c) (cond-false (covers x.area l c) (field_shows x l c) cell a.0) ∙ all_kept xs l c cell a.1

pub none_shows_blank : NoneShowsBlank
none_shows_blank xs l c a = all_kept xs l c blank a

pub last_shows : LastShows
last_shows xs ys x l c e a =
    all_append xs (x ∷ ys) l c blank ∙ all_kept ys l c (printed_over x l c (picture xs l c)) a ∙ cond-true (covers x.area l c) (field_shows x l c) (picture xs l c) e
