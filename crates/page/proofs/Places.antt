-- Cells that stand line by line: the cell at line l and column c of w columns is the one at l * w + c.
use Rattle.std.proofs.Common.{◌≡◌, ℕ, ◌+◌, ◌*◌, ◌<◌, ◌≤◌, Bool, true, false, cond, ◌&&◌, ◌==◌, IfSome, Some, None, Option, refl, mul_comm, arith}
use Rattle.std.proofs.lemmas.Nat.{mul-add-lt, same_from_place}
use Rattle.std.proofs.lemmas.Bool.Decides.{nat_tests}
use Rattle.page.specs.declared.cell.Cell.{Cell}
use Rattle.page.specs.declared.cell.Size.{Size}
use Rattle.page.specs.Sizes.{index_in}

-- it is inside
pub place_inside : (l c h w room : ℕ) → l < h → c < w → h * w ≤ room → l * w + c < room
place_inside l c h w room p q fits = omega (arith, mul-add-lt l w c h p q, mul_comm h w)

pub index_inside : (size : Size) (line column room : ℕ) → size.lines * size.columns ≤ room
    → IfSome (index_in size line column) (λ index. index < room)
index_inside size line column room fits = grind (arith, nat_tests, place_inside line column size.lines size.columns room)

-- no other cell is there
pub same_place : (w l c l' c' : ℕ) → c < w → c' < w → (l * w + c == l' * w + c') ≡ (l == l' && c == c')
same_place w l c l' c' p q =
    let back : l ≡ l' → c ≡ c' → l * w + c ≡ l' * w + c' = λ e d. (cc) in
    grind (arith, nat_tests, same_from_place l c l' c' w p q, back)

-- a cell stored at its place is there, and at every other place what was there
pub stored_set : (w index : ℕ) (s s' : ℕ → Cell) (line column : ℕ) (cell : Cell)
    → index ≡ line * w + column → column < w → ((k : ℕ) → s' k ≡ cond (k == index) cell (s k))
    → (l c : ℕ) → c < w → s' (l * w + c) ≡ cond (l == line && c == column) cell (s (l * w + c))
stored_set w index s s' line column cell at p h l c q = rw (h (l * w + c), at, same_place w l c line column q p) refl

-- what an index that was found says
pub index_at : (b : Bool) (i n : ℕ) → ◌≡◌ {A = Option ℕ} (Some i) (cond b (Some n) None) → (b ≡ true) × (i ≡ n)
index_at true i n e = (refl, cc)
index_at false i n e = let z : ◌≡◌ {A = ℕ} 0 1 = cc in absurd (omega arith)
