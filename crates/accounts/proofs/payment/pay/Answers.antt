use Rattle.std.proofs.Common.{pos, ◌∙◌, w64}
use Rattle.std.proofs.lemmas.Int.{to_z-of_z}
use Rattle.accounts.proofs.Answered.{back}
use Rattle.accounts.proofs.Payments.{line-paid, amount_back, pays, receives}
use Rattle.accounts.proofs.payment.pay.Goals as goal

pub returns-then-centavos-lt0 : goal.returns-then-centavos-lt0
returns-then-centavos-lt0 g c =
    let m = g.A.Accounts in
    let i = c.args.institution in
    let z = c.args.centavos in
    let s = c.args.accounts.now in
    let abs = c.saturating_abs-amount in
    let post = c.post in
    let ends = pays i z c.ranges.centavos c.if-centavos-lt0.true in
    let paid = line-paid i z (back i) (pos 0) (back abs.result) (m.free s) (m.free post.new.self) (m.balances s) (m.balances post.new.self) post.result (m.parties s)
    (to_z-of_z w64 i c.ranges.institution ∙ ends.0) ends.1 (amount_back z abs.result c.ranges.centavos (record { sfits = abs.type_inv }) abs.ensures)
    post.ensures.answer post.ensures.moves post.ensures.uses in
    record { answer = paid.0; moves = paid.1; uses = paid.2; keeps = paid.3 }

pub returns-else-centavos-lt0 : goal.returns-else-centavos-lt0
returns-else-centavos-lt0 g c =
    let m = g.A.Accounts in
    let i = c.args.institution in
    let z = c.args.centavos in
    let s = c.args.accounts.now in
    let abs = c.saturating_abs-amount in
    let post = c.post-else-centavos-lt0 in
    let ends = receives i z c.ranges.centavos c.if-centavos-lt0.false in
    let paid = line-paid i z (pos 0) (back i) (back abs.result) (m.free s) (m.free post.new.self) (m.balances s) (m.balances post.new.self) post.result (m.parties s)
    ends.0 (to_z-of_z w64 i c.ranges.institution ∙ ends.1) (amount_back z abs.result c.ranges.centavos (record { sfits = abs.type_inv }) abs.ensures)
    post.ensures.answer post.ensures.moves post.ensures.uses in
    record { answer = paid.0; moves = paid.1; uses = paid.2; keeps = paid.3 }
