-- Items laid one behind another are laid as one.
use Rattle.std.proofs.Common.{◌≡◌, ℕ, ◌+◌, ◌≤◌, List, [], ◌∷◌, ◌++◌, length, sym, ◌∙◌, arith}
use Rattle.std.proofs.lemmas.List.{length-append}
use Rattle.lists.specs.Laying.{laid}
use Rattle.lists.proofs.Laws.{laid_nothing, laid-laid, length-laid}
use Rattle.message_writer.specs.Parts.{joined}
use Rattle.message_writer.specs.Layings.{laid_in_turn}

pub in_turn : (was : List ℕ) (place : ℕ) (items : List (List ℕ)) → place + length (joined items) ≤ length was → laid_in_turn was place items ≡ laid was place (joined items)
in_turn was place [] h = sym (laid_nothing was place)
in_turn was place (item ∷ items) h =
    let all : length (item ++ joined items) ≡ length item + length (joined items) = length-append item (joined items) in
    let fits : place + length item ≤ length was = omega arith in
    in_turn (laid was place item) (place + length item) items (omega (arith, length-laid was place item fits)) ∙ laid-laid was item (joined items) place fits
