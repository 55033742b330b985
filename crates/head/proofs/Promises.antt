-- What a checked head promises, from the laws of its bytes.
use Rattle.std.proofs.Common.{◌≡◌, ℕ, true, List, Ok, Err, Result, sym, ap, ◌∙◌, arith}
use Rattle.refusal.specs.declared.faults.RecordFault.{RecordFault}
use Rattle.head.specs.Heads.{lawful, encode}
use Rattle.head.specs.Reading.{head_at}
use Rattle.head.specs.Told.{told, Exactly, ReadsBack, Alone}
use Rattle.head.specs.declared.head.Head.{Head}
use Rattle.head.specs.declared.items.HeadItems.{HeadItems}
use Rattle.head.proofs.HeadLaws.{head_told, head_read, reads_back, encode_unique}

pub exactly_told : (m : List ℕ) (r : Result Head RecordFault) → told r ≡ head_at m → Exactly m r
exactly_told m (Ok h) e = (head_told m h.items (sym e)).1
exactly_told m (Err f) e = λ h ok begins.
    let same : ◌≡◌ {A = Result HeadItems RecordFault} (Err f) (Ok h) = e ∙ head_read m h ok begins in
    let z : ◌≡◌ {A = ℕ} 0 1 = cc in omega arith

pub reads_back_all : (h : HeadItems) → lawful h ≡ true → ReadsBack h
reads_back_all h ok = λ rest. reads_back h rest ok

pub alone_all : (h : HeadItems) → lawful h ≡ true → Alone h
alone_all h ok = λ g also. (encode_unique g h also ok, ap encode)
