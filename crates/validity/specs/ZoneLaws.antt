-- What the answers on zones mean: which texts have which answer, and which zones an answer sets.
use Rattle.std.specs.Prelude.{◌≡◌, ℕ, ◌/◌, ◌%◌, ◌^◌, ◌<◌, Bool, false, List, [], ◌∷◌, ◌++◌, length, Option, nat_lt, slice_index}
use Rattle.std.specs.List.{AllByRecursion}
use Rattle.text_code.specs.Spellings.{Spelled}
use Rattle.validity.specs.declared.answer.Zones.{Zones}
use Rattle.validity.specs.declared.answer.ZoneKind.TheVariants.{Plain, All, Listed}
use Rattle.octets.specs.Digits.{digits}
use Rattle.validity.specs.Listing.{netz, zones_of}
use Rattle.validity.specs.Zoning.{flag, count_of, ones_of, among, plain_zones, all_zones, listed_zones}

-- further zones, each in three digits behind one blank
abbrev pub further : List ℕ → List ℕ
further [] = []
further (z ∷ zs) = 32 ∷ (digits 3 z ++ further zs)

-- the text of some zones: three digits each, joined by single blanks
abbrev pub listing : List ℕ → List ℕ
listing [] = []
listing (z ∷ zs) = digits 3 z ++ further zs

-- the text lists the zones zs
pub record Lists (cs zs : List ℕ) : Type 0 where
  pub some : 0 < length zs
  pub below : AllByRecursion (λ z. z < 1000) zs
  pub text : cs ≡ listing zs

-- which texts have which answer
pub record KindLaw (cs : List ℕ) : Type 0 where
  pub all : cs ≡ netz → zones_of cs ≡ all_zones
  pub all_only : (zones_of cs).kind ≡ All → cs ≡ netz
  pub listed : (zs : List ℕ) → Lists cs zs → zones_of cs ≡ listed_zones zs
  pub listed_only : (zones_of cs).kind ≡ Listed → (zs : List ℕ) × Lists cs zs
  pub plain : (zones_of cs).kind ≡ Plain → zones_of cs ≡ plain_zones

-- zone z is bit z mod 64 of word z div 64
abbrev pub zone_bit : List ℕ → ℕ → ℕ
zone_bit ws z = slice_index ws (z / 64) / 2 ^ (z % 64) % 2

-- the answer sets exactly the zones for which f holds, and counts them: they are the bits set in its sixteen words
pub record Sets (r : Zones) (f : ℕ → Bool) : Type 0 where
  pub sixteen : length r.words ≡ 16
  pub bits : (z : ℕ) → zone_bit r.words z ≡ flag (f z)
  pub number : r.count ≡ count_of 1000 f
  pub counted : r.count ≡ ones_of r.words

pub record SetLaw : Type 0 where
  pub plain : Sets plain_zones (λ _. false)
  pub all : Sets all_zones (λ z. nat_lt z 1000)
  pub listed : (zs : List ℕ) → AllByRecursion (λ z. z < 1000) zs → Sets (listed_zones zs) (among zs)

-- the answer to bytes in a code: that of the text that they spell, plain where they spell none
pub record ZonesIn (f : ℕ → Option (List ℕ)) (bytes : List ℕ) (r : Zones) : Type 0 where
  pub text : (cs : List ℕ) → Spelled f cs bytes → r ≡ zones_of cs
  pub no_text : ((cs : List ℕ) → Spelled f cs bytes → ⊥) → r ≡ plain_zones
