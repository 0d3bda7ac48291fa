use Rattle.std.proofs.Common.{Err, Ok, List, [], ◌∷◌, sym, refl, ap, ◌∙◌, subst}
use Rattle.std.proofs.lemmas.Int.{to_z-of_z}
use Rattle.std.proofs.lemmas.Result.{err_from_is_err_and}
use Rattle.rules.specs.Numbers.{Answer}
use Rattle.rules.specs.declared.call.Call.TheVariants.{Terminate}
use Rattle.rules.specs.declared.call.Accepted.TheVariants.{Terminated}
use Rattle.rules.specs.declared.hedge.Line.{Line}
use Rattle.rules.specs.Rules.{quietly}
use Rattle.room.specs.Rooms.{Turns, told_by}
use Rattle.room.specs.declared.room.Room.{Room}
use Rattle.room.proofs.Turning.{still_turns, first-set}
use Rattle.room.proofs.room.Room.terminate.Goals as goal

pub returns-in_err-line-clause-turns : goal.returns-in_err-line-clause-turns
returns-in_err-line-clause-turns g c =
    let f = c.ranges.hedge in
    let d = c.args.self.now in
    let p = err_from_is_err_and c.from_residual.result c.from_residual.ensures.1 in
    let d' : Room g.row.A.Denot g.row.T.Denot g.row.C.Denot = record { house = c.terminate.new.self; hand = d.hand } in
    subst (λ (x : Answer). Turns g.A.Accounts.balances g.A.Accounts.free g.T.TieRule.meaning g.C.Convention.meaning d (Terminate c.args.hedge) (told_by (Terminate c.args.hedge) x c.args.lines.now) d') (sym (p.1 ∙ ap Err p.2))
    (still_turns g.A.Accounts.balances g.A.Accounts.free g.T.TieRule.meaning g.C.Convention.meaning d (Terminate c.args.hedge) (quietly (Err c.in_err-line.field-0.0)) d' (simp to_z-of_z at c.in_err-line.ensures) refl refl)

pub returns : goal.returns
returns g c =
    let f = c.ranges.hedge in
    let l = c.in_ok-line.line in
    let e = first-set c.args.lines.now l c.told-lines in
    let d' : Room g.row.A.Denot g.row.T.Denot g.row.C.Denot = record { house = c.terminate.new.self; hand = c.args.self.now.hand } in
    record {
      turns = subst (λ (ls : List Line). Turns g.A.Accounts.balances g.A.Accounts.free g.T.TieRule.meaning g.C.Convention.meaning c.args.self.now (Terminate c.args.hedge) (record { answer = Ok (Terminated l); lines = ls }) d') (sym e.0)
          (still_turns g.A.Accounts.balances g.A.Accounts.free g.T.TieRule.meaning g.C.Convention.meaning c.args.self.now (Terminate c.args.hedge) (record { answer = Ok (Terminated l); lines = l ∷ [] }) d' (simp to_z-of_z at c.in_ok-line.ensures) refl refl);
      later = e.1;
    }
