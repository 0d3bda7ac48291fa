use Rattle.std.proofs.Common.{sym, refl, subst}
use Rattle.std.proofs.lemmas.Int.{to_z-of_z}
use Rattle.rules.specs.declared.call.Call.TheVariants.{Release}
use Rattle.rules.specs.Numbers.{Answer}
use Rattle.rules.specs.Rules.{quietly}
use Rattle.house.specs.Calls.{Quiet}
use Rattle.room.proofs.Laws.{quiet_makes}
use Rattle.room.proofs.Turning.{still_turns}
use Rattle.room.proofs.room.Room.release.Goals as goal

pub returns : goal.returns
returns g c =
    let f-institution = c.ranges.institution in let f-centavos = c.ranges.centavos in
    let d = c.args.self.now in
    let call = Release c.args.institution c.args.centavos in
    let h' = c.release.new.self in
    let q = subst (λ (x : Answer). Quiet d.house call x h') (sym c.done_or.ensures) (simp to_z-of_z at c.release.ensures) in
    still_turns g.A.Accounts.balances g.A.Accounts.free g.T.TieRule.meaning g.C.Convention.meaning d call (quietly c.done_or.result) _
    (quiet_makes g.A.Accounts.balances g.A.Accounts.free g.T.TieRule.meaning g.C.Convention.meaning d.house call c.done_or.result h' q) refl refl
