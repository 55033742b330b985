use Rattle.show_parts.proofs.Fronts.{front_taken}
use Rattle.show_parts.proofs.input.read_front.Goals as goal

pub returns : goal.returns
returns g c = record {
  front = rw (← c.take.ensures.inner) (front_taken (g.R.Read.remaining c.take.result.inner) c.take.result.limit 65536
      c.new-bytes.result.items c.read_to_end.new.buf.items c.take.ensures.limit c.new-bytes.ensures.items c.in_ok-read_to_end.ensures.bytes);
}
