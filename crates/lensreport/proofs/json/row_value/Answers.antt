use Rattle.std.proofs.Common.{ap}
use Rattle.serde_json.proofs.Views.{view-Object}
use Rattle.serde_json.specs.Data.{object}
use Rattle.lensreport.specs.JsonData.{row_data}
use Rattle.lensreport.proofs.JsonTexts.{row_puts}
use Rattle.lensreport.proofs.json.row_value.Goals as goal

pub returns : goal.returns
unfolding row_data
returns c =
    let r = c.args.r.now in
    rw (view-Object c.put.new.map, c.in_ok-put.ensures.ok, c.in_ok-places.ensures, c.as_slice.ensures.value, c.in_ok-put_count-2.ensures, c.in_ok-put_count.ensures, c.in_ok-members.ensures)
    (ap object (row_puts c.args.i r.scale r.places.items r.word))
