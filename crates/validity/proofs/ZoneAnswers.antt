-- The answers on zones: which texts have which, what they set, and that the bytes of a text tell them.
use Rattle.std.proofs.Common.{◌≡◌, ℕ, ◌+◌, ◌*◌, ◌/◌, ◌%◌, ◌^◌, ◌<◌, ◌≤◌, Bool, true, false, cond, eqb, ltb, List, [], ◌∷◌, length, Some, None, Option, sym, refl, ap, ◌∙◌, subst, ⊎_elim, arith}
use native.Mathlib.Nat.{zero-div}
use Rattle.std.proofs.lemmas.Slice.Eq.{bytes_eq-Decides}
use Rattle.std.proofs.lemmas.List.{get_or_past}
use Rattle.std.proofs.lemmas.Bool.{both_ways, cases_Bool, cases_lt, le-ltb, ne_eqb, or_from}
use Rattle.std.specs.List.{AllByRecursion}
use Rattle.std.specs.Str.{bytes_eq}
use Rattle.text_code.specs.Spellings.{OneToFour, PrefixFree, OwnBytes, Spelled, spell_all}
use Rattle.text_code.proofs.Decoding.{spelled_cons}
use Rattle.text_code.proofs.Unique.{unique_decoding}
use Rattle.validity.specs.declared.answer.Zones.{Zones}
use Rattle.validity.specs.declared.answer.ZoneKind.{ZoneKind}
use Rattle.validity.specs.declared.answer.ZoneKind.TheVariants.{Plain, All, Listed}
use Rattle.validity.specs.Listing.{groups, netz, listed_or, zones_of, ListedIn}
use Rattle.validity.specs.ZoneLaws.{listing, Lists, KindLaw, Sets, SetLaw, ZonesIn}
use Rattle.validity.specs.Zoning.{flag, words_of, count_of, ones_of, among, zones_with, plain_zones, all_zones, listed_zones, zones_of_words}
use Rattle.validity.proofs.Listings.{groups_told, groups_listing}
use Rattle.validity.proofs.Packing.{length-words, words_bit, ones_zones}

-- kinds

lists : (cs zs : List ℕ) → groups false 0 0 cs ≡ Some zs → Lists cs zs
lists cs zs e =
    let w = groups_told cs zs e in
    record {
      some = omega (arith, ap length w.is);
      below = w.below;
      text = w.text ∙ ap listing (sym w.is);
    }

reads : (cs zs : List ℕ) → Lists cs zs → groups false 0 0 cs ≡ Some zs
reads cs [] l = absurd (omega (arith, l.some))
reads cs (z ∷ zs) l = ap (groups false 0 0) l.text ∙ groups_listing z zs l.below.0 l.below.1

netz_unlisted : groups false 0 0 netz ≡ None
unfolding groups
netz_unlisted = refl

-- by whether the text is `Netz` and what it lists
abbrev answer : Bool → Option (List ℕ) → Zones
answer b o = cond b all_zones (listed_or o)

all_kind : (b : Bool) (o : Option (List ℕ)) → (answer b o).kind ≡ All → b ≡ true
all_kind true o h = refl
all_kind false (Some zs) h = let e : ◌≡◌ {A = ℕ} 0 1 = cc in absurd (omega arith)
all_kind false None h = let e : ◌≡◌ {A = ℕ} 0 1 = cc in absurd (omega arith)

listed_kind : (b : Bool) (o : Option (List ℕ)) → (answer b o).kind ≡ Listed → (zs : List ℕ) × (o ≡ Some zs)
listed_kind true o h = let e : ◌≡◌ {A = ℕ} 0 1 = cc in absurd (omega arith)
listed_kind false (Some zs) h = (zs, refl)
listed_kind false None h = let e : ◌≡◌ {A = ℕ} 0 1 = cc in absurd (omega arith)

plain_kind : (b : Bool) (o : Option (List ℕ)) → (answer b o).kind ≡ Plain → answer b o ≡ plain_zones
plain_kind true o h = let e : ◌≡◌ {A = ℕ} 0 1 = cc in absurd (omega arith)
plain_kind false (Some zs) h = let e : ◌≡◌ {A = ℕ} 0 1 = cc in absurd (omega arith)
plain_kind false None h = refl

-- a text that lists zones is not `Netz`
listed_answer : (b : Bool) (cs zs : List ℕ) → b ≡ bytes_eq cs netz → groups false 0 0 cs ≡ Some zs → answer b (groups false 0 0 cs) ≡ listed_zones zs
listed_answer true cs zs b e =
    let n : None ≡ Some zs = sym netz_unlisted ∙ ap (groups false 0 0) (sym ((bytes_eq-Decides cs netz).0 (sym b))) ∙ e in
    let z : ◌≡◌ {A = ℕ} 0 1 = cc in absurd (omega arith)
listed_answer false cs zs b e = ap listed_or e

pub kind_law : (cs : List ℕ) → KindLaw cs
kind_law cs =
    record {
      all = λ e. ap (λ b. answer b (groups false 0 0 cs)) ((bytes_eq-Decides cs netz).1 e);
      all_only = λ k. (bytes_eq-Decides cs netz).0 (all_kind (bytes_eq cs netz) (groups false 0 0 cs) k);
      listed = λ zs l. listed_answer (bytes_eq cs netz) cs zs refl (reads cs zs l);
      listed_only = λ k. let t = listed_kind (bytes_eq cs netz) (groups false 0 0 cs) k in (t.0, lists cs t.0 t.1);
      plain = plain_kind (bytes_eq cs netz) (groups false 0 0 cs);
    }

-- zones set

nothing : (j : ℕ) → 0 / 2 ^ j % 2 ≡ 0
nothing j = ap (λ x. x % 2) (zero-div (2 ^ j))

sets : (k : ZoneKind) (f : ℕ → Bool) → ((z : ℕ) → 1000 ≤ z → f z ≡ false) → Sets (zones_with k f) f
sets k f h =
    record {
      sixteen = length-words 16 f;
      bits = λ z.
          ⊎_elim
          (λ l.
          let w : 64 * (z / 64) + z % 64 ≡ z = omega arith in
          words_bit 16 (z / 64) (z % 64) f (omega arith) (omega arith) ∙ ap (λ y. flag (f y)) w)
          (λ g.
          ap (λ w. w / 2 ^ (z % 64) % 2) (get_or_past (words_of 16 f) (z / 64) 0 (omega (arith, length-words 16 f)))
          ∙ nothing (z % 64) ∙ ap flag (sym (h z (omega arith))))
          (cases_lt z 1024);
      number = refl;
      counted = sym (ones_zones f h);
    }

pub not_among : (zs : List ℕ) → AllByRecursion (λ z. z < 1000) zs → (z : ℕ) → 1000 ≤ z → among zs z ≡ false
not_among [] h z l = refl
not_among (y ∷ ys) (b, h) z l = or_from (eqb z y) (among ys z) (ne_eqb z y (λ e. omega arith)) (not_among ys h z l)

pub set_law : SetLaw
set_law =
    record {
      plain = sets Plain (λ _. false) (λ z l. refl);
      all = sets All (λ z. ltb z 1000) (λ z l. le-ltb z 1000 l);
      listed = λ zs h. sets Listed (among zs) (not_among zs h);
    }

-- the answer to bytes

-- characters from 32 to 126 are their own bytes
pub own_spelled : (f : ℕ → Option (List ℕ)) (cs : List ℕ) → OwnBytes f → AllByRecursion (λ c. (32 ≤ c) × (c ≤ 126)) cs → Spelled f cs cs
own_spelled f [] own h = refl
own_spelled f (c ∷ cs) own (l, h) = spelled_cons f c cs (c ∷ []) cs (own.printable c l.0 l.1) (own_spelled f cs own h)

netz_spelled : (f : ℕ → Option (List ℕ)) → OwnBytes f → Spelled f netz netz
netz_spelled f own =
    own_spelled f netz own ((omega arith, omega arith), ((omega arith, omega arith), ((omega arith, omega arith), ((omega arith, omega arith), tt))))

pub netz_in : (f : ℕ → Option (List ℕ)) (bytes : List ℕ) (r : Zones) → OneToFour f → PrefixFree f → OwnBytes f
    → bytes_eq bytes netz ≡ true → r ≡ all_zones → ZonesIn f bytes r
netz_in f bytes r short apart own b e =
    let n : bytes ≡ netz = (bytes_eq-Decides bytes netz).0 b in
    let s : Spelled f netz bytes = netz_spelled f own ∙ ap Some (sym n) in
    record {
      text = λ cs t. e ∙ sym ((kind_law cs).all (unique_decoding f short apart cs netz bytes t s));
      no_text = λ none. absurd (none netz s);
    }

-- a text of other bytes is not `Netz`
not_netz : (f : ℕ → Option (List ℕ)) (cs bytes : List ℕ) → OwnBytes f → bytes_eq bytes netz ≡ false → Spelled f cs bytes → bytes_eq cs netz ≡ false
not_netz f cs bytes own b s =
    ⊎_elim
    (λ t.
    let e : cs ≡ netz = (bytes_eq-Decides cs netz).0 t in
    let w : Some netz ≡ Some bytes = sym (netz_spelled f own) ∙ ap (spell_all f) (sym e) ∙ s in
    let n : bytes ≡ netz = cc in
    absurd (both_ways (bytes_eq bytes netz) b ((bytes_eq-Decides bytes netz).1 n)))
    (λ n. n) (cases_Bool (bytes_eq cs netz))

none_in : (f : ℕ → Option (List ℕ)) (bytes : List ℕ) (r : Zones) → OwnBytes f → bytes_eq bytes netz ≡ false → ListedIn f bytes None
    → r ≡ plain_zones → ZonesIn f bytes r
none_in f bytes r own b l e =
    record {
      text = λ cs s.
          e ∙ sym (ap (λ t. answer t (groups false 0 0 cs)) (not_netz f cs bytes own b s) ∙ ap listed_or (l cs s));
      no_text = λ _. e;
    }

listed_in : (f : ℕ → Option (List ℕ)) (bytes words : List ℕ) (count : ℕ) → OneToFour f → PrefixFree f → OwnBytes f → bytes_eq bytes netz ≡ false
    → ListedIn f bytes (Some words) → count ≡ ones_of words → ZonesIn f bytes (record { kind = Listed; words = words; count = count })
listed_in f bytes words count short apart own b (ds, zs, s, g, e) n =
    let c : count ≡ count_of 1000 (among zs) = n ∙ ap ones_of e ∙ ones_zones (among zs) (not_among zs (lists ds zs g).below) in
    let r : record { kind = Listed; words = words; count = count } ≡ listed_zones zs = cc in
    record {
      text = λ cs t.
          let same : cs ≡ ds = unique_decoding f short apart cs ds bytes t s in
          r ∙ sym (ap zones_of same ∙ ap (λ x. answer x (groups false 0 0 ds)) (not_netz f ds bytes own b s) ∙ ap listed_or g);
      no_text = λ none. absurd (none ds s);
    }

pub words_in : (f : ℕ → Option (List ℕ)) (bytes : List ℕ) (o : Option (List ℕ)) (r : Zones) → OneToFour f → PrefixFree f → OwnBytes f → bytes_eq bytes netz ≡ false
    → ListedIn f bytes o → r ≡ zones_of_words o → ZonesIn f bytes r
words_in f bytes None r short apart own b l e = none_in f bytes r own b l e
words_in f bytes (Some words) r short apart own b l e = subst (ZonesIn f bytes) (sym e) (listed_in f bytes words (ones_of words) short apart own b l refl)
