-- A list without a part of it, and with that part behind the rest.
use Rattle.std.proofs.Common.{◌≡◌, ℕ, ◌+◌, ◌≤◌, List, [], ◌++◌, map, length, take, drop, sym, ap, ◌∙◌, arith}
use Rattle.std.proofs.lemmas.List.{append-nil, length-append, length-take-le, length-drop, take_all, drop_all, map-append, take-map, drop-map}
use Rattle.sequence.specs.Parts.{part, spliced, without, moved}

pub length_part : {X : Type 0} (place count : ℕ) (xs : List X) → place + count ≤ length xs → length (part place count xs) ≡ count
length_part place count xs fits = length-take-le count (drop place xs) (omega (arith, length-drop place xs))

pub length_without : {X : Type 0} (place count : ℕ) (xs : List X) → place + count ≤ length xs → length (without place count xs) + count ≡ length xs
length_without place count xs fits =
    omega (arith, length-append (take place xs) (drop (place + count) xs), length-take-le place xs (omega arith), length-drop (place + count) xs)

pub length_moved : {X : Type 0} (place count : ℕ) (xs : List X) → place + count ≤ length xs → length (moved place count xs) ≡ length xs
length_moved place count xs fits =
    omega (arith, length-append (without place count xs) (part place count xs), length_without place count xs fits, length_part place count xs fits)

-- past the end there is no part
pub without_past : {X : Type 0} (place count : ℕ) (xs : List X) → length xs ≤ place → without place count xs ≡ xs
without_past place count xs past =
    ap (λ s. s ++ drop (place + count) xs) (take_all place xs past) ∙ ap (λ s. xs ++ s) (drop_all (place + count) xs (omega arith)) ∙ append-nil xs

pub moved_past : {X : Type 0} (place count : ℕ) (xs : List X) → length xs ≤ place → moved place count xs ≡ xs
moved_past place count xs past =
    let none : part place count xs ≡ [] = ap (take count) (drop_all place xs past) ∙ take_all count [] (omega arith) in
    ap (λ s. s ++ part place count xs) (without_past place count xs past) ∙ ap (λ s. xs ++ s) none ∙ append-nil xs

-- what is read off each entry keeps the same places
pub map_spliced : {X Y : Type 0} (f : X → Y) (place count : ℕ) (others xs : List X) → map f (spliced place count others xs) ≡ spliced place count (map f others) (map f xs)
map_spliced f place count others xs =
    map-append f (take place xs) (others ++ drop (place + count) xs)
    ∙ ap (λ s. map f (take place xs) ++ s) (map-append f others (drop (place + count) xs))
    ∙ ap (λ s. s ++ (map f others ++ map f (drop (place + count) xs))) (sym (take-map f place xs))
    ∙ ap (λ s. take place (map f xs) ++ (map f others ++ s)) (sym (drop-map f (place + count) xs))

pub map_moved : {X Y : Type 0} (f : X → Y) (place count : ℕ) (xs : List X) → map f (moved place count xs) ≡ moved place count (map f xs)
map_moved f place count xs =
    map-append f (without place count xs) (part place count xs)
    ∙ ap (λ s. s ++ map f (part place count xs)) (map_spliced f place count [] xs)
    ∙ ap (λ s. without place count (map f xs) ++ s) (sym (take-map f count (drop place xs)) ∙ ap (take count) (sym (drop-map f place xs)))
