-- The size of a page over lent memory: it has room, and is within the limits.
use Rattle.std.proofs.Common.{◌≡◌, ℕ, ◌*◌, ◌≤◌, refl, arith}
use Rattle.std.proofs.lemmas.Bool.Decides.{nat_tests}
use Rattle.std.proofs.lemmas.Bool.{cond_both, cond-true}
use Rattle.page.specs.declared.cell.Size.{Size}
use Rattle.page.specs.Sizes.{fits, fitting_size}

abbrev none : Size
none = record { lines = 0; columns = 0 }

pub fitting_room : (lines columns room : ℕ) → (fitting_size lines columns room).lines * (fitting_size lines columns room).columns ≤ room
fitting_room lines columns room = grind (arith, nat_tests)

pub fitting_lines : (lines columns room : ℕ) → (fitting_size lines columns room).lines ≤ 1000
fitting_lines lines columns room = grind (arith, nat_tests)

pub fitting_columns : (lines columns room : ℕ) → (fitting_size lines columns room).columns ≤ 1000
fitting_columns lines columns room = grind (arith, nat_tests)

-- what fits fits again
pub fitting_again : (lines columns room : ℕ) → fitting_size (fitting_size lines columns room).lines (fitting_size lines columns room).columns room ≡ fitting_size lines columns room
fitting_again lines columns room =
    cond_both (fits lines columns room) (record { lines = lines; columns = columns }) none (λ (s : Size). fitting_size s.lines s.columns room ≡ s)
    (cond-true (fits lines columns room) (record { lines = lines; columns = columns }) none)
    (λ e. cond_both (fits 0 0 room) none none (λ (s : Size). s ≡ none) (λ t. refl) (λ f. refl))

pub fitting_of : (lines columns room room' : ℕ) (s : Size) → s ≡ fitting_size lines columns room → room' ≡ room → fitting_size s.lines s.columns room' ≡ s
fitting_of lines columns room room' s e d = rw (d, e) (fitting_again lines columns room)
