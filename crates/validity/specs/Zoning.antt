-- Zones are the numbers 0 to 999. An answer has a kind, sixteen words of 64 bits and a count.
use Rattle.std.specs.Prelude.{ℕ, zero, suc, ◌+◌, ◌*◌, Bool, false, cond, ◌||◌, List, [], ◌∷◌, Some, None, Option, ◌==◌, count_ones, nat_lt, sum_by}
use Rattle.validity.specs.declared.answer.Zones.{Zones}
use Rattle.validity.specs.declared.answer.ZoneKind.{ZoneKind}
use Rattle.validity.specs.declared.answer.ZoneKind.TheVariants.{Plain, All, Listed}

abbrev pub flag : Bool → ℕ
flag b = cond b 1 0

-- the number of k bits whose bit j, worth 2 ^ j, is set exactly where f j holds
unfoldable pub word_of : ℕ → (ℕ → Bool) → ℕ
word_of zero f = 0
word_of (suc k) f = flag (f 0) + 2 * word_of k (λ j. f (suc j))

-- n words of 64 bits: bit j of word i is set exactly where f (64 * i + j) holds
unfoldable pub words_of : ℕ → (ℕ → Bool) → List ℕ
words_of zero f = []
words_of (suc n) f = word_of 64 f ∷ words_of n (λ z. f (64 + z))

-- how many numbers below n there are for which f holds
unfoldable pub count_of : ℕ → (ℕ → Bool) → ℕ
count_of zero f = 0
count_of (suc n) f = flag (f 0) + count_of n (λ z. f (suc z))

-- how many bits of some words are set
abbrev pub ones_of : List ℕ → ℕ
ones_of ws = sum_by count_ones ws

-- the answer whose zones are those for which f holds
abbrev pub zones_with : ZoneKind → (ℕ → Bool) → Zones
zones_with k f = record { kind = k; words = words_of 16 f; count = count_of 1000 f }

abbrev pub among : List ℕ → ℕ → Bool
among [] z = false
among (y ∷ ys) z = z == y || among ys z

abbrev pub plain_zones : Zones
plain_zones = zones_with Plain (λ _. false)

abbrev pub all_zones : Zones
all_zones = zones_with All (λ z. nat_lt z 1000)

abbrev pub listed_zones : List ℕ → Zones
listed_zones zs = zones_with Listed (among zs)

-- the answer to listed words, plain where there are none
abbrev pub zones_of_words : Option (List ℕ) → Zones
zones_of_words (Some ws) = record { kind = Listed; words = ws; count = ones_of ws }
zones_of_words None = plain_zones
