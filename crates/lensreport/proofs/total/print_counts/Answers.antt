use Rattle.std.proofs.Common.{append_assoc}
use Rattle.lensreport.proofs.total.print_counts.Goals as goal

pub returns : goal.returns
returns c =
    rw (
      c.push_str-2.ensures.bytes,
      c.push_count-8.ensures.bytes,
      c.push_count-7.ensures.bytes,
      c.push_count-6.ensures.bytes,
      c.push_count-5.ensures.bytes,
      c.push_count-4.ensures.bytes,
      c.push_count-3.ensures.bytes,
      c.push_count-2.ensures.bytes,
      c.push_count.ensures.bytes,
      c.push_str.ensures.bytes,
      c.requires,
      ← c.totals.view_is,
    ) (simp append_assoc)
