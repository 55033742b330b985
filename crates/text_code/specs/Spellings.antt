-- A text code is known by its spellings: f gives the bytes of each character number, or none.
use Rattle.std.specs.Prelude.{◌≡◌, ℕ, ◌<◌, ◌≤◌, List, [], ◌∷◌, ◌++◌, length, take, Some, None, Option}
use Rattle.std.specs.List.{AllByRecursion}

-- a spelling has 1 to 4 bytes
abbrev pub OneToFour : (ℕ → Option (List ℕ)) → Type 0
OneToFour f = (n : ℕ) (bs : List ℕ) → f n ≡ Some bs → (1 ≤ length bs) × (length bs ≤ 4)

abbrev pub OfBytes : (ℕ → Option (List ℕ)) → Type 0
OfBytes f = (n : ℕ) (bs : List ℕ) → f n ≡ Some bs → AllByRecursion (λ b. b < 256) bs

-- only the numbers up to 1,114,111 are characters
abbrev pub OfCharacters : (ℕ → Option (List ℕ)) → Type 0
OfCharacters f = (n : ℕ) (bs : List ℕ) → f n ≡ Some bs → n ≤ 1114111

-- no spelling begins another, and no two characters share one
abbrev pub PrefixFree : (ℕ → Option (List ℕ)) → Type 0
PrefixFree f = (m n : ℕ) (bs rest : List ℕ) → f m ≡ Some bs → f n ≡ Some (bs ++ rest) → m ≡ n

-- character 10 and the characters 32 to 126 are spelled by their own byte
pub record OwnBytes (f : ℕ → Option (List ℕ)) : Type 0 where
  pub newline : f 10 ≡ Some (10 ∷ [])
  pub printable : (n : ℕ) → 32 ≤ n → n ≤ 126 → f n ≡ Some (n ∷ [])

-- the first k of the bytes are the spelling of character n
pub record Begins (f : ℕ → Option (List ℕ)) (n k : ℕ) (bytes : List ℕ) : Type 0 where
  pub within : k ≤ length bytes
  pub spells : f n ≡ Some (take k bytes)

-- no character's spelling begins the bytes
abbrev pub NoneBegins : (ℕ → Option (List ℕ)) → List ℕ → Type 0
NoneBegins f bytes = (n k : ℕ) → Begins f n k bytes → ⊥

abbrev pub join : Option (List ℕ) → Option (List ℕ) → Option (List ℕ)
join None others = None
join (Some bs) None = None
join (Some bs) (Some others) = Some (bs ++ others)

-- the bytes of a list of characters: none where one has no spelling
abbrev pub spell_all : (ℕ → Option (List ℕ)) → List ℕ → Option (List ℕ)
spell_all f [] = Some []
spell_all f (c ∷ cs) = join (f c) (spell_all f cs)

abbrev pub Spelled : (ℕ → Option (List ℕ)) → List ℕ → List ℕ → Type 0
Spelled f cs bytes = spell_all f cs ≡ Some bytes

-- the bytes of a list of characters determine the list
abbrev pub UniqueDecoding : (ℕ → Option (List ℕ)) → Type 0
UniqueDecoding f = (cs ds bytes : List ℕ) → Spelled f cs bytes → Spelled f ds bytes → cs ≡ ds
