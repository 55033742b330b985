-- A record's first twelve bytes: what is read is what stands there.
use Rattle.std.proofs.Common.{◌≡◌, ℕ, ◌+◌, ◌≤◌, true, leb, List, length, Ok, sym, refl, ap, ◌∙◌, arith}
use Rattle.std.proofs.lemmas.Bool.{leb-true, le-leb}
use Rattle.refusal.specs.Chain.{lift, demand}
use Rattle.refusal.specs.declared.causes.ItemCause.TheVariants.{NoDigit}
use Rattle.refusal.specs.declared.causes.RecordCause.TheVariants.{WrongLength}
use Rattle.refusal.specs.declared.faults.ItemFault.{ItemFault}
use Rattle.refusal.specs.declared.faults.RecordFault.TheVariants.{Item, Own}
use Rattle.refusal.specs.declared.faults.Site.{Site}
use Rattle.refusal.proofs.Chains.{ok_same, then_ok, then_go, lift_ok, demand_ok, demand_go}
use Rattle.octets.specs.Bytes.{part}
use Rattle.octets.specs.Digits.{numeral, digits}
use Rattle.octets.proofs.PartLaws.{number_told, number_read}
use Rattle.record.specs.Start.{in_record, lawful_id, lawful_version, lawful_length, whole, id_at, version_at, length_at, body_length}
use Rattle.record.specs.declared.start.RecordKind.{RecordKind}

-- at a place of m there begins a record whose body has n bytes and is whole
pub record StartsAt (kind : RecordKind) (m : List ℕ) (place n : ℕ) : Type 0 where
  pub id : lawful_id kind (part m place 6) ≡ true
  pub version : lawful_version kind (part m (place + 6) 2) ≡ true
  pub size : part m (place + 8) 4 ≡ digits 4 n
  pub lawful : lawful_length kind n ≡ true
  pub short : n ≤ 9999
  pub within : place + 12 + n ≤ length m

whole_told : (m : List ℕ) (s : Site) (n : ℕ) (u : Unit {0}) → whole m s n ≡ Ok u → s.place + n ≤ length m
whole_told m s n u e = leb-true (s.place + n) (length m) (demand_ok (leb (s.place + n) (length m)) _ u e)

whole_read : (m : List ℕ) (s : Site) (n : ℕ) → s.place + n ≤ length m → whole m s n ≡ Ok tt
whole_read m s n h = demand_go (leb (s.place + n) (length m)) _ (le-leb (s.place + n) (length m) h)

pub start_told : (kind : RecordKind) (m : List ℕ) (k place n : ℕ) → body_length kind m k place ≡ Ok n → StartsAt kind m place n
start_told kind m k place n e =
    let a = then_ok (id_at kind m (in_record k place)) _ _ e in
    let b = then_ok (version_at kind m (in_record k (place + 6))) _ _ a.2 in
    let c = then_ok (length_at kind m (in_record k (place + 8))) _ _ b.2 in
    let d = then_ok (whole m (in_record k (place + 12)) c.0) _ _ c.2 in
    let i = then_ok (whole m (in_record k place) 6) _ _ a.1 in
    let v = then_ok (whole m (in_record k (place + 6)) 2) _ _ b.1 in
    let l = then_ok (whole m (in_record k (place + 8)) 4) _ _ c.1 in
    let fault : ItemFault = record { cause = NoDigit; site = in_record k (place + 8) } in
    let read = then_ok (lift Item (numeral fault (part m (place + 8) 4))) _ _ l.2 in
    let t = then_ok (demand (lawful_length kind read.0) (Own WrongLength (in_record k (place + 8)))) _ _ read.2 in
    let same : read.0 ≡ n = ok_same read.0 c.0 t.2 ∙ ok_same c.0 n d.2 in
    let number = number_told m fault (place + 8) 4 read.0 (whole_told m (in_record k (place + 8)) 4 _ l.1) (lift_ok Item (numeral fault (part m (place + 8) 4)) read.0 read.1) in
    record {
      id = demand_ok (lawful_id kind (part m place 6)) _ _ i.2;
      version = demand_ok (lawful_version kind (part m (place + 6) 2)) _ _ v.2;
      size = number.0 ∙ ap (digits 4) same;
      lawful = ap (lawful_length kind) (sym same) ∙ demand_ok (lawful_length kind read.0) _ _ t.1;
      short = omega (arith, number.1, same);
      within = omega (arith, whole_told m (in_record k (place + 12)) c.0 _ d.1, ok_same c.0 n d.2);
    }

pub start_read : (kind : RecordKind) (m : List ℕ) (k place n : ℕ) → StartsAt kind m place n → body_length kind m k place ≡ Ok n
start_read kind m k place n s =
    let fault : ItemFault = record { cause = NoDigit; site = in_record k (place + 8) } in
    let far : place + 12 + n ≤ length m = s.within in
    let id : id_at kind m (in_record k place) ≡ Ok tt =
    then_go (whole m (in_record k place) 6) _ tt _ (whole_read m (in_record k place) 6 (omega arith)) (demand_go (lawful_id kind (part m place 6)) _ s.id) in
    let version : version_at kind m (in_record k (place + 6)) ≡ Ok tt =
    then_go (whole m (in_record k (place + 6)) 2) _ tt _ (whole_read m (in_record k (place + 6)) 2 (omega arith)) (demand_go (lawful_version kind (part m (place + 6) 2)) _ s.version) in
    let number : numeral fault (part m (place + 8) 4) ≡ Ok n = number_read m fault (place + 8) 4 n (omega arith) (omega (arith, s.short)) s.size in
    let size : length_at kind m (in_record k (place + 8)) ≡ Ok n =
    then_go (whole m (in_record k (place + 8)) 4) _ tt _ (whole_read m (in_record k (place + 8)) 4 (omega arith))
    (then_go (lift Item (numeral fault (part m (place + 8) 4))) _ n _ (ap (lift Item) number)
    (then_go (demand (lawful_length kind n) (Own WrongLength (in_record k (place + 8)))) _ tt _ (demand_go (lawful_length kind n) _ s.lawful) refl)) in
    then_go (id_at kind m (in_record k place)) _ tt _ id
    (then_go (version_at kind m (in_record k (place + 6))) _ tt _ version
    (then_go (length_at kind m (in_record k (place + 8))) _ n _ size
    (then_go (whole m (in_record k (place + 12)) n) _ tt _ (whole_read m (in_record k (place + 12)) n (omega arith)) refl)))
