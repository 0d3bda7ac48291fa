use Rattle.std.proofs.Common.{pos, sym, ap, ◌∙◌, w64}
use Rattle.std.proofs.lemmas.Int.{to_z-of_z}
use Rattle.accounts.specs.Journals.{share}
use Rattle.accounts.proofs.Answered.{if_passed, if_stopped}
use Rattle.accounts.proofs.posting.Posting.moved_into.Goals as goal

pub returns-then-is_ok : goal.returns-then-is_ok
returns-then-is_ok c =
    to_z-of_z w64 c.share.result (record { sfits = c.share.type_inv })
    ∙ c.share.ensures
    ∙ ap (λ k. share k c.args.self) (to_z-of_z w64 c.args.party c.ranges.party)
    ∙ if_passed _ c.test.result (share c.args.party c.args.self) (pos 0) c.test.ensures.answer (sym c.if-is_ok.ensures.value)

pub returns-else-is_ok : goal.returns-else-is_ok
returns-else-is_ok c = if_stopped _ c.test.result (share c.args.party c.args.self) (pos 0) c.test.ensures.answer (sym c.if-is_ok.ensures.value)
