-- Laws of items that are laid over a list.
use Rattle.std.proofs.Common.{◌≡◌, ℕ, ◌+◌, ◌-◌, ◌≤◌, min, List, [], ◌++◌, length, take, drop, sym, ap, ◌∙◌, add-zero, arith}
use borrow.Rule.Slice.PartMut.{put_mid}
use Rattle.std.proofs.lemmas.List.{append_assoc, drop_at, drop-drop, drop_all, append-nil, length-append, length-drop, length-take, length-take-le, take_all, take-append-drop, take_at, take_min, drop_min}
use Rattle.lists.specs.Laying.{laid, overlaid}

module _ {X : Type 0} where
  pub laid_nothing : (was : List X) (at : ℕ) → laid was at [] ≡ was
  laid_nothing was at = ap (λ n. take at was ++ drop n was) (add-zero at) ∙ take-append-drop at was

  pub length-laid : (was : List X) (at : ℕ) (s : List X) → at + length s ≤ length was → length (laid was at s) ≡ length was
  length-laid was at s h =
      let t = length-take-le at was (omega arith) in
      simp length-append (omega (arith, t, length-drop (at + length s) was))

  pub overlaid_whole : (was item : List X) (at : ℕ) → at + length item ≤ length was → overlaid was at item ≡ laid was at item
  overlaid_whole was item at h = ap (laid was at) (take_all (length was - at) item (omega arith))

  -- one item laid behind another
  pub laid-laid : (was s rest : List X) (at : ℕ) → at + length s ≤ length was → laid (laid was at s) (at + length s) rest ≡ laid was at (s ++ rest)
  laid-laid was s rest at h =
      let front : List X = take at was ++ s in
      let behind : List X = drop (at + length s) was in
      let whole : laid was at s ≡ front ++ behind = sym (append_assoc (take at was) s behind) in
      let long : length front ≡ at + length s = length-append (take at was) s ∙ ap (λ n. n + length s) (length-take-le at was (omega arith)) in
      let t : take (at + length s) (laid was at s) ≡ front = ap (take (at + length s)) whole ∙ take_at front behind (at + length s) long in
      let d : drop (at + length s + length rest) (laid was at s) ≡ drop (at + length (s ++ rest)) was =
      sym (drop-drop (length rest) (at + length s) (laid was at s)) ∙ ap (drop (length rest)) (ap (drop (at + length s)) whole ∙ drop_at front behind (at + length s) long) ∙ drop-drop (length rest) (at + length s) was ∙ ap (λ n. drop n was) (omega (arith, length-append s rest)) in
      ap (λ x. x ++ (rest ++ drop (at + length s + length rest) (laid was at s))) t ∙ ap (λ x. front ++ (rest ++ x)) d ∙ append_assoc (take at was) s (rest ++ drop (at + length (s ++ rest)) was) ∙ ap (λ x. take at was ++ x) (sym (append_assoc s rest (drop (at + length (s ++ rest)) was)))

  -- items s laid over `was` one behind another from a place on, as far as place p
  pub record Filled (was : List X) (at : ℕ) (s : List X) (p : ℕ) (now : List X) : Type 0 where
    pub holds : now ≡ laid was at s
    pub ends : p ≡ at + length s

  pub filled_none : (was : List X) (at : ℕ) → Filled was at [] at was
  filled_none was at = record { holds = sym (laid_nothing was at); ends = sym (add-zero at) }

  pub filled_more : {was s now next : List X} {at p : ℕ} (q : ℕ) (item : List X) → Filled was at s p now → p ≤ length was → next ≡ laid now p item → q ≡ p + length item → Filled was at (s ++ item) q next
  filled_more {was} {s} {now} {next} {at} {p} q item f h e more =
      record {
        holds = e ∙ ap (λ x. laid x p item) f.holds ∙ ap (λ k. laid (laid was at s) k item) f.ends ∙ laid-laid was s item at (omega (arith, f.ends));
        ends = omega (arith, f.ends, length-append s item);
      }

  -- one more item that was laid as far as there is room, and there is room for it
  pub filled_overlaid : {was s now next laying : List X} {at p : ℕ} (q : ℕ) (item : List X) → Filled was at s p now → next ≡ overlaid now p laying → laying ≡ item → q ≡ p + length item → q ≤ length was → Filled was at (s ++ item) q next
  filled_overlaid {was} {s} {now} {next} {laying} {at} {p} q item f e same more room =
      let l : length now ≡ length was = ap length f.holds ∙ length-laid was at s (omega (arith, f.ends)) in
      let o : next ≡ laid now p item = e ∙ ap (overlaid now p) same ∙ overlaid_whole now item p (omega (arith, l)) in
      filled_more q item f (omega arith) o more

  -- from the front on
  pub filled_front : {was s now : List X} {p : ℕ} → Filled was 0 s p now → now ≡ s ++ drop p was
  filled_front {was} {s} {now} {p} f =
      let e : 0 + length s ≡ p = sym f.ends in f.holds ∙ ap (λ k. s ++ drop k was) e

  -- from the front to the end
  pub filled_whole : {was s now : List X} → Filled was 0 s (length was) now → now ≡ s
  filled_whole {was} {s} f =
      filled_front f ∙ ap (λ x. s ++ x) (drop_all (length was) was (omega arith)) ∙ append-nil s

  -- a part of a slice that was written
  pub put_mid-laid : (at k : ℕ) (was part s : List X) → part ≡ s → length s ≡ k → put_mid at k was part ≡ laid was at s
  put_mid-laid at k was part s e n =
      ap (λ x. take at was ++ (x ++ drop k (drop at was))) e ∙ ap (λ x. take at was ++ (s ++ x)) (drop-drop k at was ∙ ap (λ m. drop (at + m) was) (sym n))

  -- a part that was written, as much of an item as there is room for
  pub put_mid-overlaid : (was part item : List X) (at k : ℕ) → k ≡ min (length was - at) (length item) → part ≡ take k item → put_mid (min at (length was)) (min at (length was) + k - min at (length was)) was part ≡ overlaid was at item
  put_mid-overlaid was part item at k room e =
      let from : ℕ = min at (length was) in
      let some : List X = take (length was - at) item in
      let t : part ≡ some = e ∙ ap (λ n. take n item) room ∙ take_min (length was - at) item in
      let n : length some ≡ k = length-take (length was - at) item ∙ sym room in
      let m : min (from + length some) (length was) ≡ min (at + length some) (length was) = omega (arith, n, room) in
      let d : drop (from + length some) was ≡ drop (at + length some) was = sym (drop_min (from + length some) was) ∙ ap (λ j. drop j was) m ∙ drop_min (at + length some) was in
      put_mid-laid from (from + k - from) was part some t (omega (arith, n)) ∙ ap (λ x. x ++ (some ++ drop (from + length some) was)) (take_min at was) ∙ ap (λ x. take at was ++ (some ++ x)) d
