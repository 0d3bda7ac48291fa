use Rattle.std.proofs.Common.{pos, arith, w64, SFits}
use Rattle.std.proofs.lemmas.Int.{ints, to_z-of_z}
use Rattle.house.proofs.Postings.{posts_one}
use Rattle.house.proofs.posting.post_line.Goals as goal

pub returns : goal.returns
returns g c =
    let m = g.A.Accounts in
    let s = c.args.accounts.now in
    let l = c.args.line in
    let h = c.requires.payable in
    let fz : SFits w64 l.centavos = omega (arith, ints, h.2) in
    let fi : SFits w64 (pos l.institution) = omega (arith, ints, h.1) in
    let e = c.pay.ensures in
    posts_one l (m.balances s) (m.balances c.pay.new.accounts) (m.free s) (m.free c.pay.new.accounts) h c.requires.some (m.parties s) (simp (c.from.ensures, to_z-of_z) at e.moves) (simp (c.from.ensures, to_z-of_z) at e.uses)
