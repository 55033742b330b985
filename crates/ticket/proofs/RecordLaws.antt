-- Records of a message: what is read is what stands there.
use Rattle.std.proofs.Common.{◌≡◌, ℕ, zero, suc, ◌+◌, ◌-◌, ◌≤◌, true, leb, List, [], ◌∷◌, length, Ok, sym, refl, ap, ◌∙◌, subst, ⊎_elim, arith}
use Rattle.std.proofs.lemmas.List.{length-append}
use Rattle.std.proofs.lemmas.Bool.{cases_Bool, cond-true, cond-false, leb-true, le-leb, lt-leb}
use Rattle.std.specs.List.{AllByRecursion}
use Rattle.refusal.specs.Chain.{lift, demand}
use Rattle.refusal.specs.declared.causes.SheetCause.TheVariants.{MemoryExceeded, TooManyEntries}
use Rattle.refusal.specs.declared.faults.SheetFault.TheVariants.{Record, Own as SheetOwn}
use Rattle.refusal.proofs.Chains.{ok_same, then_ok, then_go, lift_ok, demand_ok, demand_go}
use Rattle.octets.specs.Bytes.{part}
use Rattle.octets.specs.Digits.{digits}
use Rattle.octets.proofs.DigitLaws.{length_digits}
use Rattle.octets.proofs.PartLaws.{Stands, length_part, stands, stands_part, stands_join, stands_cut}
use Rattle.record.specs.Start.{in_record, lawful_id, lawful_version, lawful_length, body_length}
use Rattle.record.specs.declared.start.RecordKind.{RecordKind}
use Rattle.record.specs.declared.start.RecordKind.TheVariants.{Carried}
use Rattle.record.proofs.StartLaws.{StartsAt, start_told, start_read}
use Rattle.ticket.specs.Lawful.{LawfulCarried, body_total}
use Rattle.ticket.specs.Reading.{carried_at, carried_from}
use Rattle.ticket.specs.Tickets.{CarriedRecord, record_bytes, carried_bytes}

-- the first twelve bytes and the body
pub record_told : (kind : RecordKind) (m : List ℕ) (p n : ℕ) (id version body : List ℕ) → StartsAt kind m p n → part m p 6 ≡ id → part m (p + 6) 2 ≡ version → Stands m (p + 12) (p + 12 + n) body → Stands m p (p + 12 + n) (record_bytes id version body)
record_told kind m p n id version body s i v b =
    let within : p + 12 + n ≤ length m = s.within in
    let size : n ≡ length body = omega (arith, b.ends) in
    stands_join m id _ p (p + 6) _ (stands m id p 6 (p + 6) refl (omega arith) i)
    (stands_join m version _ (p + 6) (p + 8) _ (stands m version (p + 6) 2 (p + 8) (omega arith) (omega arith) v)
    (stands_join m (digits 4 (length body)) body (p + 8) (p + 12) _ (stands m (digits 4 (length body)) (p + 8) 4 (p + 12) (omega arith) (omega arith) (s.size ∙ ap (digits 4) size)) b))

-- a lawful record stands from place p to place q
pub record RecordStands (kind : RecordKind) (m : List ℕ) (p q : ℕ) (i v b : List ℕ) : Type 0 where
  pub six : length i ≡ 6
  pub id : lawful_id kind i ≡ true
  pub two : length v ≡ 2
  pub version : lawful_version kind v ≡ true
  pub lawful : lawful_length kind (length b) ≡ true
  pub short : length b ≤ 9999
  pub holds : Stands m p q (record_bytes i v b)
  pub within : q ≤ length m

-- what stands at the places of its parts
pub record RecordParts (kind : RecordKind) (m : List ℕ) (p q : ℕ) (i v b : List ℕ) : Type 0 where
  pub starts : StartsAt kind m p (length b)
  pub id : part m p 6 ≡ i
  pub version : part m (p + 6) 2 ≡ v
  pub body : Stands m (p + 12) q b

pub record_read : (kind : RecordKind) (m : List ℕ) (p q : ℕ) (id version body : List ℕ) → RecordStands kind m p q id version body → RecordParts kind m p q id version body
record_read kind m p q id version body h =
    let i = stands_cut m id _ p (p + 6) q (ap (λ j. p + j) h.six) h.holds in
    let v = stands_cut m version _ (p + 6) (p + 8) q (omega (arith, h.two)) i.1 in
    let n = stands_cut m (digits 4 (length body)) body (p + 8) (p + 12) q (omega (arith, length_digits 4 (length body))) v.1 in
    let first : part m p 6 ≡ id = stands_part m id p 6 (p + 6) h.six i.0 in
    let second : part m (p + 6) 2 ≡ version = stands_part m version (p + 6) 2 (p + 8) h.two v.0 in
    record {
      starts = record {
        id = ap (lawful_id kind) first ∙ h.id;
        version = ap (lawful_version kind) second ∙ h.version;
        size = stands_part m (digits 4 (length body)) (p + 8) 4 (p + 12) (length_digits 4 (length body)) n.0;
        lawful = h.lawful;
        short = h.short;
        within = omega (arith, n.1.ends, h.within);
      };
      id = first;
      version = second;
      body = n.1;
    }

-- a lawful carried record stands at a place, and there is room for its body
record CarriedStands (m : List ℕ) (room p : ℕ) (r : CarriedRecord) : Type 0 where
  lawful : LawfulCarried r
  holds : Stands m p (p + 12 + length r.body) (record_bytes r.id r.version r.body)
  within : p + 12 + length r.body ≤ length m
  fits : length r.body ≤ room

carried_at_told : (m : List ℕ) (room k p : ℕ) (r : CarriedRecord) → carried_at m room k p ≡ Ok r → CarriedStands m room p r
carried_at_told m room k p r e =
    let a = then_ok (lift Record (body_length Carried m k p)) _ _ e in
    let n : ℕ = a.0 in
    let b = then_ok (demand (leb n room) (SheetOwn MemoryExceeded (in_record k (p + 12)))) _ _ a.2 in
    let s = start_told Carried m k p n (lift_ok Record (body_length Carried m k p) n a.1) in
    let within : p + 12 + n ≤ length m = s.within in
    let body : List ℕ = part m (p + 12) n in
    let long : length body ≡ n = length_part m (p + 12) n within in
    let whole : Stands m (p + 12) (p + 12 + n) body = stands m body (p + 12) n (p + 12 + n) refl within refl in
    let made : CarriedRecord = record { id = part m p 6; version = part m (p + 6) 2; body = body } in
    subst (CarriedStands m room p) (ok_same made r b.2)
    (record {
      lawful = record { six = length_part m p 6 (omega arith); id = s.id; two = length_part m (p + 6) 2 (omega arith); version = s.version; short = omega (arith, s.short) };
      holds = subst (λ j. Stands m p (p + 12 + j) (record_bytes made.id made.version body)) (sym long) (record_told Carried m p n made.id made.version body s refl refl whole);
      within = omega arith;
      fits = omega (arith, leb-true n room (demand_ok (leb n room) _ _ b.1));
    })

carried_at_read : (m : List ℕ) (room k p : ℕ) (r : CarriedRecord) → CarriedStands m room p r → carried_at m room k p ≡ Ok r
carried_at_read m room k p r h =
    let n : ℕ = length r.body in
    let t = record_read Carried m p (p + 12 + n) r.id r.version r.body
    (record { six = h.lawful.six; id = h.lawful.id; two = h.lawful.two; version = h.lawful.version; lawful = refl; short = h.lawful.short; holds = h.holds; within = h.within }) in
    let same : ◌≡◌ {A = CarriedRecord} (record { id = part m p 6; version = part m (p + 6) 2; body = part m (p + 12) n }) r = λ i. record { id = t.id i; version = t.version i; body = t.body.holds i } in
    then_go (lift Record (body_length Carried m k p)) _ n _ (ap (lift Record) (start_read Carried m k p n t.starts))
    (then_go (demand (leb n room) (SheetOwn MemoryExceeded (in_record k (p + 12)))) _ tt _ (demand_go (leb n room) _ (le-leb n room h.fits)) (ap Ok same))

-- lawful carried records stand from a place to the end of the message, and there is room for their bodies
pub record CarriedTo (m : List ℕ) (room p : ℕ) (rs : List CarriedRecord) : Type 0 where
  pub lawful : AllByRecursion LawfulCarried rs
  pub holds : Stands m p (length m) (carried_bytes rs)
  pub fits : body_total rs ≤ room

none_carried : (m : List ℕ) (room p n : ℕ) → p ≡ length m → CarriedTo m room p [] × (length {A = CarriedRecord} [] ≤ n)
none_carried m room p n e = (record { lawful = tt; holds = record { holds = refl; ends = omega arith }; fits = omega arith }, omega arith)

pub carried_told : (m : List ℕ) (room n k p : ℕ) (rs : List CarriedRecord) → p ≤ length m → carried_from m room n k p ≡ Ok rs → CarriedTo m room p rs × (length rs ≤ n)
unfolding carried_from
carried_told m room zero k p rs before e =
    let a = then_ok (demand (leb (length m) p) (SheetOwn TooManyEntries (in_record k p))) _ _ e in
    let end : length m ≤ p = leb-true (length m) p (demand_ok (leb (length m) p) _ _ a.1) in
    subst (λ xs. CarriedTo m room p xs × (length xs ≤ zero)) (ok_same [] rs a.2) (none_carried m room p zero (omega arith))
carried_told m room (suc n) k p rs before e =
    ⊎_elim
    (λ t.
    let end : length m ≤ p = leb-true (length m) p t in
    subst (λ xs. CarriedTo m room p xs × (length xs ≤ suc n)) (ok_same [] rs (sym (cond-true (leb (length m) p) (Ok []) _ t) ∙ e)) (none_carried m room p (suc n) (omega arith)))
    (λ t.
    let a = then_ok (carried_at m room k p) _ _ (sym (cond-false (leb (length m) p) (Ok []) _ t) ∙ e) in
    let r : CarriedRecord = a.0 in
    let q : ℕ = p + 12 + length r.body in
    let b = then_ok (carried_from m (room - length r.body) n (k + 1) q) _ _ a.2 in
    let h = carried_at_told m room k p r a.1 in
    let others = carried_told m (room - length r.body) n (k + 1) q b.0 h.within b.1 in
    subst (λ xs. CarriedTo m room p xs × (length xs ≤ suc n)) (ok_same (r ∷ b.0) rs b.2) (
      record {
        lawful = (h.lawful, others.0.lawful);
        holds = stands_join m _ _ p q (length m) h.holds others.0.holds;
        fits = omega (arith, h.fits, others.0.fits);
      },
      omega (arith, others.1),
    ))
    (cases_Bool (leb (length m) p))

pub carried_read : (m : List ℕ) (room n k p : ℕ) (rs : List CarriedRecord) → CarriedTo m room p rs → length rs ≤ n → carried_from m room n k p ≡ Ok rs
unfolding carried_from
carried_read m room zero k p [] h few =
    then_go (demand (leb (length m) p) (SheetOwn TooManyEntries (in_record k p))) _ tt _ (demand_go (leb (length m) p) _ (le-leb (length m) p (omega (arith, h.holds.ends)))) refl
carried_read m room zero k p (r ∷ rs) h few = absurd (omega arith)
carried_read m room (suc n) k p [] h few = cond-true (leb (length m) p) (Ok []) _ (le-leb (length m) p (omega (arith, h.holds.ends)))
carried_read m room (suc n) k p (r ∷ rs) h few =
    let long : length (record_bytes r.id r.version r.body) ≡ 12 + length r.body = simp length-append (omega (arith, h.lawful.0.six, h.lawful.0.two)) in
    let q : ℕ = p + 12 + length r.body in
    let c = stands_cut m (record_bytes r.id r.version r.body) (carried_bytes rs) p q (length m) (omega arith) h.holds in
    let within : q ≤ length m = omega (arith, c.1.ends) in
    cond-false (leb (length m) p) (Ok []) _ (lt-leb (length m) p (omega arith))
    ∙ then_go (carried_at m room k p) _ r _ (carried_at_read m room k p r (record { lawful = h.lawful.0; holds = c.0; within = within; fits = omega (arith, h.fits) }))
    (then_go (carried_from m (room - length r.body) n (k + 1) q) _ rs _ (carried_read m (room - length r.body) n (k + 1) q rs (record { lawful = h.lawful.1; holds = c.1; fits = omega (arith, h.fits) }) (omega arith)) refl)
