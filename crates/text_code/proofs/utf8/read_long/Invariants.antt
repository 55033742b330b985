use Rattle.std.proofs.Common.{◌≡◌, ◌+◌, ◌-◌, ◌<◌, ◌≤◌}
use Rattle.text_code.specs.Utf8Forms.{long_at, rest_at}
use Rattle.text_code.proofs.utf8.read_long.Given as goal

abbrev pub invariant-loop-byte : goal.invariant-loop-byte
invariant-loop-byte g l =
    record {
      two : l.byte-index ≤ 0 → l.character < 2048;
      three : l.byte-index ≤ 1 → l.character < 131072;
      same : rest_at l.bytes g.row.N l.character (2 + l.byte-index) (g.row.N - (2 + l.byte-index)) ≡ long_at l.bytes l.first l.lead g.row.N;
    }
