-- Which zones a text tells: `Netz` tells all, three-digit groups with one blank between neighbours are listed.
use Rattle.std.specs.Prelude.{◌≡◌, ℕ, ◌+◌, ◌-◌, ◌*◌, Bool, true, false, cond, ◌&&◌, List, [], ◌∷◌, Some, None, Option, ◌==◌, nat_le}
use Rattle.std.specs.Str.{bytes_eq}
use Rattle.text_code.specs.Spellings.{Spelled}
use Rattle.validity.specs.Zoning.{plain_zones, all_zones, listed_zones, words_of, among}
use Rattle.validity.specs.declared.answer.Zones.{Zones}
use Rattle.validity.specs.declared.groups.Class.{Class}
use Rattle.validity.specs.declared.groups.Class.TheVariants.{Digit, Blank, Other}

-- the characters 48 to 57 are digits, 32 is a blank
abbrev pub class_of : ℕ → Class
class_of c = cond (nat_le 48 c && nat_le c 57) (Digit (c - 48)) (cond (c == 32) Blank Other)

abbrev pub prepend : ℕ → Option (List ℕ) → Option (List ℕ)
prepend z None = None
prepend z (Some zs) = Some (z ∷ zs)

abbrev pub when_digit : Class → (ℕ → Option (List ℕ)) → Option (List ℕ)
when_digit (Digit d) k = k d
when_digit Blank k = None
when_digit Other k = None

abbrev pub when_blank : Class → Option (List ℕ) → Option (List ℕ)
when_blank (Digit d) o = None
when_blank Blank o = o
when_blank Other o = None

-- The zones that the rest of a text lists.
-- Where gap holds a group is whole, so that a blank or the end is due; else the group has n digits, which write v, and lacks some.
unfoldable pub groups : Bool → ℕ → ℕ → List ℕ → Option (List ℕ)
groups true n v [] = Some []
groups false n v [] = None
groups true n v (c ∷ cs) = when_blank (class_of c) (groups false 0 0 cs)
groups false n v (c ∷ cs) =
    when_digit (class_of c) (λ d. cond (n == 2) (prepend (v * 10 + d) (groups true 0 0 cs)) (groups false (n + 1) (v * 10 + d) cs))

-- the characters of `Netz`
abbrev pub netz : List ℕ
netz = 78 ∷ 101 ∷ 116 ∷ 122 ∷ []

abbrev pub listed_or : Option (List ℕ) → Zones
listed_or (Some zs) = listed_zones zs
listed_or None = plain_zones

-- the zones of a text, by its characters
abbrev pub zones_of : List ℕ → Zones
zones_of cs = cond (bytes_eq cs netz) all_zones (listed_or (groups false 0 0 cs))

-- the words of the zones that some text of these bytes lists, or that no text of these bytes lists any
abbrev pub ListedIn : (ℕ → Option (List ℕ)) → List ℕ → Option (List ℕ) → Type 0
ListedIn f bytes (Some ws) =
    (cs : List ℕ) × (zs : List ℕ) × Spelled f cs bytes × (groups false 0 0 cs ≡ Some zs) × (ws ≡ words_of 16 (among zs))
ListedIn f bytes None = (cs : List ℕ) → Spelled f cs bytes → groups false 0 0 cs ≡ None
