-- What is promised of a checked head: its items, when they are told, and that their bytes tell them again.
use Rattle.std.specs.Prelude.{◌≡◌, ℕ, true, List, ◌++◌, take, Ok, Err, Result}
use Rattle.refusal.specs.declared.faults.RecordFault.{RecordFault}
use Rattle.head.specs.Heads.{lawful, encode}
use Rattle.head.specs.Reading.{head_at}
use Rattle.head.specs.declared.head.Head.{Head}
use Rattle.head.specs.declared.items.HeadItems.{HeadItems}

abbrev pub told : {F : Type 0} → Result Head F → Result HeadItems F
told (Ok h) = Ok h.items
told (Err f) = Err f

-- m begins with the record of these items
abbrev pub Begins : List ℕ → HeadItems → Type 0
Begins m h = take 53 m ≡ encode h

-- m begins with the record of the head that is told, or with that of no lawful head
abbrev pub Exactly : List ℕ → Result Head RecordFault → Type 0
Exactly m (Ok h) = Begins m h.items
Exactly m (Err f) = (h : HeadItems) → lawful h ≡ true → Begins m h → ⊥

-- whatever stands behind the record, reading tells the same head
abbrev pub ReadsBack : HeadItems → Type 0
ReadsBack h = (rest : List ℕ) → head_at (encode h ++ rest) ≡ Ok h

-- no other lawful head has the same record
abbrev pub Alone : HeadItems → Type 0
Alone h = (g : HeadItems) → lawful g ≡ true → ((encode g ≡ encode h → g ≡ h) × (g ≡ h → encode g ≡ encode h))
