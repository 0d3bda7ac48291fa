use Rattle.std.proofs.Common.{◌+◌, ◌^◌, ◌<◌, arith, rules}
use Rattle.day_sheet.specs.Faults.{place_in}
use Rattle.day_sheet.proofs.Fronts.{fault_fits}
use Rattle.day_sheet.proofs.reader.Reader.read_on.Goals as goal

pub map_err-requires : goal.map_err-requires
map_err-requires c = λ e is.
    let fits : c.args.self.now.at + place_in e < 2 ^ 64 = fault_fits _ c.args.self.now.sheet.now c.args.self.now.at e (rw is at c.read_record-read.ensures) (omega arith) (omega arith) in
    search rules
