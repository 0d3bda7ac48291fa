use Rattle.std.proofs.Common.{ap, sym, ◌∙◌, Option, Some, None, MatchOption, length, rules, subst, List}
use Rattle.std.specs.List.{IsChunkByPrefix}
use Rattle.std.proofs.lemmas.List.Sorted.{answers_always}
use borrow.Author.Tests.{tests}
use Rattle.std.proofs.lemmas.List.{nil_from_length}
use Rattle.rules.specs.declared.auction.Bid.{Bid}
use Rattle.allotment.proofs.Groups.{group_run, level}
use Rattle.allotment.proofs.group.first_group.Goals as goal

weaker : {T P P' : Type 0} {Q Q' : T → Type 0} (r : Option T) → MatchOption r P Q → (P → P') → ((x : T) → Q x → Q' x) → MatchOption r P' Q'
weaker None h f g = f h
weaker (Some x) h f g = g x h

pub returns : goal.returns
returns c =
    let xs = c.args.bids.now in
    let whole = c.chunk_by.ensures.rest in
    weaker c.next.result c.next.ensures.steps (λ h. nil_from_length xs (ap length (sym whole) ∙ h.0)) (λ x h.
    let run = (h.2 level (answers_always _ _ _ (λ f a r f' q. search (rules, tests)))).1 in
    (group_run xs x.now _ (sym whole ∙ h.0) h.1 (subst (λ (ys : List Bid). IsChunkByPrefix level ys (length x.now)) whole run), h.1))
