use Rattle.std.proofs.Common.{ap, ◌∙◌}
use Rattle.std.specs.List.{list_all}
use Rattle.tie_rules.specs.Sharing.{is_dollars}
use Rattle.allotment.proofs.Naming.{named-range}
use Rattle.allotment.proofs.serving.serve_group.Goals as goal

pub serve-requires-clause-ranged : goal.serve-requires-clause-ranged
serve-requires-clause-ranged g c = ap (list_all is_dollars) c.name_dollars.ensures ∙ named-range c.args.group.now c.requires.ranged
