-- The law after one call.
use Rattle.std.proofs.Common.{◌≡◌, ℕ, List, ◌∷◌, ℤ, sym, ap, ◌∙◌, subst}
use Rattle.std.specs.List.{AllByRecursion}
use Rattle.terms.specs.declared.plan.Plan.{Plan}
use Rattle.tie_rules.specs.Sharing.{Sharing}
use Rattle.conventions.specs.Deciding.{Deciding}
use Rattle.rules.specs.declared.call.Call.{Call}
use Rattle.rules.specs.Numbers.{Answer}
use Rattle.rules.specs.declared.hedge.Line.{Line}
use Rattle.rules.specs.Books.{Books}
use Rattle.rules.specs.Rules.{Told, quietly, step}
use Rattle.rules.specs.Law.{History, Run, run, Penal}
use Rattle.rules.proofs.Orders.{order_kept}
use Rattle.rules.proofs.Penalties.{penalties-one_percent}
use Rattle.rules.proofs.Questions.{law}
use Rattle.rules.proofs.Sizes.{postings_fit}
use Rattle.book.specs.View.{books_of}
use Rattle.house.specs.Posting.{by_party}
use Rattle.house.specs.Calls.{Quiet, Makes}
use Rattle.house.specs.declared.house.House.{House}
use Rattle.room.specs.Rooms.{Lawful, room_books, run_of, Live, Turns}
use Rattle.room.specs.declared.room.Room.{Room}

-- over plain books: a step from the books of a run is the next call of the run
module _ (P : Plan) (T : Sharing) (C : Deciding) (n : ℕ) (past : List Call) (c : Call) (b b' : Books) (t : Told) (stepped : step P T C b c ≡ (t, b')) (led : b ≡ (run P T C n past).books) where
  abbrev before : Run
  before = run P T C n past

  abbrev next : Run
  next = run P T C n (c ∷ past)

  same_step : step P T C before.books c ≡ (t, b')
  same_step = ap (λ (x : Books). step P T C x c) (sym led) ∙ stepped

  pub books_next : b' ≡ next.books
  books_next = sym (ap (λ p. p.1) same_step)

  pub history_next : next.history ≡ record { call = c; answer = t.answer; lines = t.lines } ∷ before.history
  history_next = ap (λ (p : Told × Books). record { call = c; answer = p.0.answer; lines = p.0.lines } ∷ before.history) same_step

  pub lawful_next : Lawful P T n (record { call = c; answer = t.answer; lines = t.lines } ∷ before.history) b'
  lawful_next = subst (λ (x : Books). Lawful P T n (record { call = c; answer = t.answer; lines = t.lines } ∷ before.history) x) (sym books_next)
      (subst (λ (h : History). Lawful P T n h next.books) history_next
      (record { shows = law P T C n (c ∷ past); orderly = order_kept P T C n (c ∷ past); postable = postings_fit P T C n (c ∷ past) }))

  pub penal_next : AllByRecursion (Penal b) t.lines
  penal_next = subst (λ (x : Books). AllByRecursion (Penal x) t.lines) (sym led) (subst (λ (ls : List Line). AllByRecursion (Penal before.books) ls) (ap (λ p. p.0.lines) same_step) (penalties-one_percent P T C n past c))

module _ {A T C : Type 0} (balances : A → List ℤ) (free : A → ℕ) (shares : T → Sharing) (decides : C → Deciding) where
  pub same-run : (d d' : Room A T C) (n : ℕ) (cs : List Call) → d'.house.book.plan ≡ d.house.book.plan → d'.house.tie_rule ≡ d.house.tie_rule → d'.house.convention ≡ d.house.convention
      → run_of balances free shares decides d n cs ≡ run_of balances free shares decides d' n cs
  same-run d d' n cs p r v =
      ap (λ (x : Plan). run x (shares d.house.tie_rule) (decides d.house.convention) n cs) (sym p)
      ∙ ap (λ (x : T). run d'.house.book.plan (shares x) (decides d.house.convention) n cs) (sym r)
      ∙ ap (λ (x : C). run d'.house.book.plan (shares d'.house.tie_rule) (decides x) n cs) (sym v)

  -- the law comes with every call that the rules make
  pub turns : (d : Room A T C) (c : Call) (t : Told) (d' : Room A T C) → (Live balances free shares decides d → Makes balances free shares decides d.house c t d'.house) → (Live balances free shares decides d → Live balances free shares decides d') → Turns balances free shares decides d c t d'
  turns d c t d' makes live = record {
    makes = makes;
    live = live;
    law = λ n past led.
        let m = makes led.live in
        record {
          lawful = lawful_next d.house.book.plan (shares d.house.tie_rule) (decides d.house.convention) n past c (room_books balances free shares decides d) (room_books balances free shares decides d') t m.steps led.books;
          penal = penal_next d.house.book.plan (shares d.house.tie_rule) (decides d.house.convention) n past c (room_books balances free shares decides d) (room_books balances free shares decides d') t m.steps led.books;
          led = record {
            live = live led.live;
            books = books_next d.house.book.plan (shares d.house.tie_rule) (decides d.house.convention) n past c (room_books balances free shares decides d) (room_books balances free shares decides d') t m.steps led.books
                ∙ ap (λ (r : Run). r.books) (same-run d d' n (c ∷ past) m.plan m.rule m.convention);
          };
        };
  }

  -- calls that tell no line
  pub quiet_makes : (h : House A T C) (c : Call) (a : Answer) (h' : House A T C) → Quiet h c a h' → Makes balances free shares decides h c (quietly a) h'
  quiet_makes h c a h' q = record {
    steps = q.tables.steps (shares h.tie_rule) (decides h.convention) (by_party (balances h.accounts)) (free h.accounts)
        ∙ ap (λ (x : A). (quietly a, books_of (by_party (balances x)) (free x) h'.book)) (sym q.accounts);
    plan = q.tables.plan;
    rule = q.rule;
    convention = q.convention;
  }
