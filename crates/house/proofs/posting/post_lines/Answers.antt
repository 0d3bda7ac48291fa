use Rattle.std.proofs.Common.{List, take, sym, subst}
use Rattle.std.proofs.lemmas.List.{take_more}
use Rattle.rules.specs.declared.hedge.Line.{Line}
use Rattle.house.specs.Posting.{Posts}
use Rattle.house.proofs.Postings.{no_line, posts_more}
use Rattle.house.proofs.posting.post_lines.Goals as goal

pub loop-line-preserved : goal.loop-line-preserved
loop-line-preserved g c =
    let m = g.A.Accounts in
    let ls = c.args.lines.now in
    let i = c.loop-line.line-index in
    let s = c.args.accounts.now in
    let t = c.post_line.new.accounts in
    subst (λ (xs : List Line). Posts xs (m.balances s) (m.free s) (m.balances t) (m.free t)) (sym (take_more ls i no_line c.loop-line-test.true))
    (posts_more (take i ls) _ (m.balances s) (m.balances c.loop-line.accounts) (m.balances t) (m.free s) (m.free c.loop-line.accounts) (m.free t) c.loop-line.invariant c.post_line.ensures)
