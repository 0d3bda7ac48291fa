-- Calls that tell lines, once the lines are posted.
use Rattle.std.proofs.Common.{ℕ, ◌-◌, List, length, ℤ, sym, refl, ap, ◌∙◌}
use Rattle.tie_rules.specs.Sharing.{Sharing}
use Rattle.conventions.specs.Deciding.{Deciding}
use Rattle.rules.specs.declared.call.Call.{Call}
use Rattle.rules.specs.Rules.{Told}
use Rattle.book.specs.View.{books_of, Tells}
use Rattle.book.specs.declared.book.Book.{Book}
use Rattle.house.specs.Posting.{by_party, Posts}
use Rattle.house.specs.Calls.{Makes}
use Rattle.house.specs.declared.house.House.{House}

module _ {A T C : Type 0} (balances : A → List ℤ) (free : A → ℕ) (shares : T → Sharing) (decides : C → Deciding) where
  pub tells_makes : (h : House A T C) (c : Call) (t : Told) (accounts : A) (k : Book) → Tells (decides h.convention) (free h.accounts) h.book c t k → Posts t.lines (balances h.accounts) (free h.accounts) (balances accounts) (free accounts)
      → Makes balances free shares decides h c t (record { accounts = accounts; tie_rule = h.tie_rule; convention = h.convention; book = k })
  tells_makes h c t accounts k tells posts = record {
    steps = tells.steps (shares h.tie_rule) (by_party (balances h.accounts))
        ∙ ap (λ (f : ℕ → ℤ). (t, books_of f (free h.accounts - length t.lines) k)) (sym posts.moves)
        ∙ ap (λ (n : ℕ). (t, books_of (by_party (balances accounts)) n k)) (sym posts.uses);
    plan = tells.plan;
    rule = refl;
    convention = refl;
  }
