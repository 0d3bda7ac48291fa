-- A run that has come to its i-th request.
use Rattle.std.proofs.Common.{◌≡◌, ℕ, ◌+◌, ◌<◌, ◌≤◌, List, [], ◌∷◌, ◌++◌, map, reverse, length, get_or, take, drop, ℤ, vec_items, sym, refl, ap, ◌∙◌, subst, append_assoc}
use Rattle.std.specs.List.{flat_map}
use Rattle.std.proofs.lemmas.List.{at_drop_more, at_drop_all, map-append, reverse-append, flat_map_more, append-nil}
use Rattle.terms.specs.declared.plan.Plan.{Plan}
use Rattle.tie_rules.specs.Sharing.{Sharing}
use Rattle.conventions.specs.Deciding.{Deciding}
use Rattle.rules.specs.declared.call.Call.{Call}
use Rattle.rules.specs.Numbers.{Answer}
use Rattle.rules.specs.declared.hedge.Line.{Line}
use Rattle.rules.specs.Books.{Books}
use Rattle.rules.specs.Rules.{Told, step}
use Rattle.rules.specs.Law.{History, Entry, Run, run}
use Rattle.rules.proofs.Orders.{order_kept}
use Rattle.rules.proofs.Questions.{law}
use Rattle.rules.proofs.Sizes.{postings_fit}
use Rattle.house.specs.Calls.{house_books}
use Rattle.house.specs.declared.house.House.{House}
use Rattle.room.specs.Rooms.{Lawful, room_books, run_of, Led}
use Rattle.room.specs.Runs.{meant, New, closed, spoken, RunShows}
use Rattle.room.specs.Opening.{Opens, Closes}
use Rattle.room.specs.Takes.{Takes}
use Rattle.room.specs.declared.log.Log.{Log}
use Rattle.room.specs.declared.request.Request.{Request}
use Rattle.room.specs.declared.room.Room.{Room}
use Rattle.room.proofs.Laws.{history_next}

-- closing keeps the law: it reads balances, hedges and free postings
closed-lawful : (P : Plan) (T : Sharing) (n : ℕ) (h : History) (b : Books) → Lawful P T n h b → Lawful P T n h (closed b)
closed-lawful P T n h b l = record {
  shows = record { balances = record { nought = l.shows.balances.nought; each = l.shows.balances.each }; hedges = l.shows.hedges; records = l.shows.records; strangers = l.shows.strangers; auctions = l.shows.auctions };
  orderly = l.orderly;
  postable = record { amounts = l.postable.amounts; count = l.postable.count; one = l.postable.one };
}

abbrev pub answers_of : History → List Answer
answers_of h = map (λ e. e.answer) (reverse h)

abbrev pub lines_of : History → List Line
lines_of h = flat_map (λ e. e.lines) (reverse h)

module _ {A T C : Type 0} (balances : A → List ℤ) (free : A → ℕ) (shares : T → Sharing) (decides : C → Deciding) (P : Plan) (R : Sharing) (V : Deciding) (n : ℕ) (fresh : Type 0) (asked : List Request) where
  pub record Going (i : ℕ) (calls : List Call) (answers : List Answer) (lines : List Line) (d : Room A T C) : Type 0 where
    pub plan : fresh → d.house.book.plan ≡ P
    pub rule : fresh → shares d.house.tie_rule ≡ R
    pub convention : fresh → decides d.house.convention ≡ V
    pub led : fresh → Led balances free shares decides d n (reverse calls)
    pub said : fresh → calls ++ spoken P R V n (reverse calls) (drop i asked) ≡ spoken P R V n [] asked
    pub answered : fresh → answers ≡ answers_of (run P R V n (reverse calls)).history
    pub told : fresh → lines ≡ lines_of (run P R V n (reverse calls)).history

  -- the run of the room is the run of the plan and the rules it was made of
  same : (i : ℕ) (calls : List Call) (answers : List Answer) (lines : List Line) (d : Room A T C) → Going i calls answers lines d → fresh → (cs : List Call) → run_of balances free shares decides d n cs ≡ run P R V n cs
  same i calls answers lines d s f cs =
      ap (λ (x : Plan). run x (shares d.house.tie_rule) (decides d.house.convention) n cs) (s.plan f)
      ∙ ap (λ (x : Sharing). run P x (decides d.house.convention) n cs) (s.rule f)
      ∙ ap (λ (x : Deciding). run P R x n cs) (s.convention f)

  step_moved : {P' : Plan} {R' : Sharing} {V' : Deciding} (b b' : Books) (c : Call) (x : Told × Books) → P' ≡ P → R' ≡ R → V' ≡ V → b ≡ b' → step P' R' V' b c ≡ x → step P R V b' c ≡ x
  step_moved {P'} {R'} {V'} b b' c x p r v q e =
      subst (λ (y : Books). step P R V y c ≡ x) q (subst (λ (y : Deciding). step P R y b c ≡ x) v (subst (λ (y : Sharing). step P y V' b c ≡ x) r (subst (λ (y : Plan). step y R' V' b c ≡ x) p e)))

  module _ (i : ℕ) (g g' : Log) (d d' : Room A T C) (z : Request) (lt : i < length asked) (t : Takes balances free shares decides d g (get_or asked i z) d' g') (s : Going i (vec_items g.calls) (vec_items g.answers) (vec_items g.lines) d) where
    abbrev past : List Call
    past = reverse (vec_items g.calls)

    abbrev c : Call
    c = meant (room_books balances free shares decides d) (get_or asked i z)

    abbrev e : Entry
    e = record { call = c; answer = t.answer; lines = t.lines }

    past_more : reverse (vec_items g'.calls) ≡ c ∷ past
    past_more = ap reverse t.calls ∙ reverse-append (vec_items g.calls) (c ∷ [])

    books : fresh → room_books balances free shares decides d ≡ (run P R V n past).books
    books f = (s.led f).books ∙ ap (λ (r : Run). r.books) (same i (vec_items g.calls) (vec_items g.answers) (vec_items g.lines) d s f past)

    history_more : fresh → (run P R V n (c ∷ past)).history ≡ e ∷ (run P R V n past).history
    history_more f = history_next P R V n past c (run P R V n past).books (room_books balances free shares decides d') (record { answer = t.answer; lines = t.lines })
        (step_moved (room_books balances free shares decides d) (run P R V n past).books c _ (s.plan f) (s.rule f) (s.convention f) (books f) (t.turns.makes (s.led f).live).steps) refl

    reversed : fresh → reverse (run P R V n (reverse (vec_items g'.calls))).history ≡ reverse (run P R V n past).history ++ e ∷ []
    reversed f = ap (λ (cs : List Call). reverse (run P R V n cs).history) past_more ∙ ap reverse (history_more f) ∙ reverse-append (e ∷ []) (run P R V n past).history

    meaning : fresh → c ≡ meant (run P R V n past).books (get_or asked i z)
    meaning f = ap (λ (b : Books). meant b (get_or asked i z)) (books f)

    abbrev rest : List Request
    rest = drop (i + 1) asked

    opened : drop i asked ≡ get_or asked i z ∷ rest
    opened = at_drop_more (λ rs. rs) asked i z lt

    said_more : fresh → vec_items g'.calls ++ spoken P R V n (reverse (vec_items g'.calls)) rest ≡ spoken P R V n [] asked
    said_more f =
        ap (λ (cs : List Call). cs ++ spoken P R V n (reverse (vec_items g'.calls)) rest) t.calls
        ∙ append_assoc (vec_items g.calls) (c ∷ []) (spoken P R V n (reverse (vec_items g'.calls)) rest)
        ∙ ap (λ (cs : List Call). vec_items g.calls ++ c ∷ spoken P R V n cs rest) past_more
        ∙ ap (λ (x : Call). vec_items g.calls ++ x ∷ spoken P R V n (x ∷ past) rest) (meaning f)
        ∙ ap (λ (rs : List Request). vec_items g.calls ++ spoken P R V n past rs) (sym opened)
        ∙ s.said f

    pub going_more : Going (i + 1) (vec_items g'.calls) (vec_items g'.answers) (vec_items g'.lines) d'
    going_more = record {
      plan = λ f. (t.turns.makes (s.led f).live).plan ∙ s.plan f;
      rule = λ f. ap shares (t.turns.makes (s.led f).live).rule ∙ s.rule f;
      convention = λ f. ap decides (t.turns.makes (s.led f).live).convention ∙ s.convention f;
      led = λ f. subst (λ (cs : List Call). Led balances free shares decides d' n cs) (sym past_more) (t.turns.law n past (s.led f)).led;
      said = said_more;
      answered = λ f. t.answers ∙ ap (λ (xs : List Answer). xs ++ t.answer ∷ []) (s.answered f) ∙ sym (ap (map (λ (y : Entry). y.answer)) (reversed f) ∙ map-append (λ (y : Entry). y.answer) (reverse (run P R V n past).history) (e ∷ []));
      told = λ f. t.told ∙ ap (λ (xs : List Line). xs ++ t.lines) (s.told f) ∙ flat_map_more (λ (y : Entry). y.lines) [] (reverse (run P R V n past).history) e ∙ sym (ap (flat_map (λ (y : Entry). y.lines)) (reversed f));
    }

  pub going_ended : (i : ℕ) (calls : List Call) (answers : List Answer) (lines : List Line) (d : Room A T C) (h : House A T C) → Going i calls answers lines d → length asked ≤ i → Closes balances free shares decides d h → fresh
      → RunShows P R V n asked calls answers lines (house_books balances free h)
  going_ended i calls answers lines d h s past_end x f = record {
    said = sym (append-nil calls) ∙ ap (λ (rs : List Request). calls ++ spoken P R V n (reverse calls) rs) (sym (at_drop_all (λ rs. rs) asked i past_end)) ∙ s.said f;
    answered = s.answered f;
    told = s.told f;
    books = left;
    law = λ k le. lawful (reverse (take k calls));
    ended = subst (λ (b : Books). Lawful P R n (run P R V n (reverse calls)).history b) (sym left) (closed-lawful P R n (run P R V n (reverse calls)).history (run P R V n (reverse calls)).books (lawful (reverse calls)));
  }
    where
      lawful : (cs : List Call) → Lawful P R n (run P R V n cs).history (run P R V n cs).books
      lawful cs = record { shows = law P R V n cs; orderly = order_kept P R V n cs; postable = postings_fit P R V n cs }

      left : house_books balances free h ≡ closed (run P R V n (reverse calls)).books
      left = x.books (s.led f).live ∙ ap closed ((s.led f).books ∙ ap (λ (r : Run). r.books) (same i calls answers lines d s f (reverse calls)))

-- a room just opened
pub going_start : {A T C : Type 0} (balances : A → List ℤ) (free : A → ℕ) (shares : T → Sharing) (decides : C → Deciding) (P : Plan) (accounts : A) (rule : T) (convention : C) (asked : List Request) (calls : List Call) (answers : List Answer) (lines : List Line) (d : Room A T C)
    → calls ≡ [] → answers ≡ [] → lines ≡ [] → Opens balances free shares decides P accounts rule convention d
    → Going balances free shares decides P (shares rule) (decides convention) (free accounts) (New (balances accounts)) asked 0 calls answers lines d
going_start balances free shares decides P accounts rule convention asked calls answers lines d c a l o =
    subst (λ (cs : List Call). Going balances free shares decides P (shares rule) (decides convention) (free accounts) (New (balances accounts)) asked 0 cs answers lines d) (sym c)
    (subst (λ (xs : List Answer). Going balances free shares decides P (shares rule) (decides convention) (free accounts) (New (balances accounts)) asked 0 [] xs lines d) (sym a)
    (subst (λ (ls : List Line). Going balances free shares decides P (shares rule) (decides convention) (free accounts) (New (balances accounts)) asked 0 [] [] ls d) (sym l)
    (record {
      plan = λ _. o.plan;
      rule = λ _. ap shares o.rule_is;
      convention = λ _. ap decides o.convention_is;
      led = o.led;
      said = λ _. refl;
      answered = λ _. refl;
      told = λ _. refl;
    })))

module _ {A T C : Type 0} (balances : A → List ℤ) (free : A → ℕ) (shares : T → Sharing) (decides : C → Deciding) where
  -- a room just opened, by what it holds
  pub opens_itself : (P : Plan) (accounts : A) (rule : T) (convention : C) (d : Room A T C) → Opens balances free shares decides P accounts rule convention d → Opens balances free shares decides d.house.book.plan d.house.accounts d.house.tie_rule d.house.convention d
  opens_itself P accounts rule convention d o = record {
    plan = refl;
    held = refl;
    rule_is = refl;
    convention_is = refl;
    led = subst (λ (x : A). New (balances x) → Led balances free shares decides d (free x) []) (sym o.held) o.led;
  }

  -- and by what it was made of
  pub shows_made : (P : Plan) (accounts : A) (rule : T) (convention : C) (d : Room A T C) (asked : List Request) (calls : List Call) (answers : List Answer) (lines : List Line) (b : Books) → Opens balances free shares decides P accounts rule convention d
      → (New (balances d.house.accounts) → RunShows d.house.book.plan (shares d.house.tie_rule) (decides d.house.convention) (free d.house.accounts) asked calls answers lines b)
      → New (balances accounts) → RunShows P (shares rule) (decides convention) (free accounts) asked calls answers lines b
  shows_made P accounts rule convention d asked calls answers lines b o f =
      subst (λ (x : C). New (balances accounts) → RunShows P (shares rule) (decides x) (free accounts) asked calls answers lines b) o.convention_is
      (subst (λ (x : T). New (balances accounts) → RunShows P (shares x) (decides d.house.convention) (free accounts) asked calls answers lines b) o.rule_is
      (subst (λ (x : A). New (balances x) → RunShows P (shares d.house.tie_rule) (decides d.house.convention) (free x) asked calls answers lines b) o.held
      (subst (λ (x : Plan). New (balances d.house.accounts) → RunShows x (shares d.house.tie_rule) (decides d.house.convention) (free d.house.accounts) asked calls answers lines b) o.plan f)))
