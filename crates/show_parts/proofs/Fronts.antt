-- What is read of an input that is cut off at a limit.
use Rattle.std.proofs.Common.{◌≡◌, ◌∙◌, ap, ℕ, List, [], ◌++◌, take, Option, Some, None, IfSome}
use Rattle.std.specs.Option.{option_map}

pub front_taken : (o : Option (List ℕ)) (limit n : ℕ) (before read : List ℕ) → limit ≡ n → before ≡ []
    → IfSome (option_map (take limit) o) (λ xs. read ≡ before ++ xs) → IfSome o (λ xs. read ≡ take n xs)
front_taken None limit n before read e b h = h
front_taken (Some xs) limit n before read e b h = h ∙ ap (λ ys. ys ++ take limit xs) b ∙ ap (λ k. take k xs) e
