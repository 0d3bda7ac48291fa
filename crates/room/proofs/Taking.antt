-- One request made and logged.
use Rattle.std.proofs.Common.{◌≡◌, ℕ, ◌-◌, min, List, [], ◌∷◌, ◌++◌, length, take, ℤ, IfOk, Ok, Err, vec_items, Result, ap, ◌∙◌, subst}
use Rattle.house.proofs.Postings.{take-capped}
use Rattle.tie_rules.specs.Sharing.{Sharing}
use Rattle.conventions.specs.Deciding.{Deciding}
use Rattle.rules.specs.declared.call.Call.{Call}
use Rattle.rules.specs.Numbers.{Answer}
use Rattle.rules.specs.declared.hedge.Line.{Line}
use Rattle.room.specs.Rooms.{room_books, Turns, told_by, lines_told}
use Rattle.room.specs.Runs.{meant}
use Rattle.room.specs.Takes.{Takes}
use Rattle.room.specs.declared.log.Log.{Log}
use Rattle.room.specs.declared.request.Request.{Request}
use Rattle.room.specs.declared.room.Room.{Room}

pub all_made : {X Y : Type 0} (r : Result X Y) (P Q R S : Type 0) → IfOk r (λ _. P) → IfOk r (λ _. Q) → IfOk r (λ _. R) → (P → Q → R → S) → IfOk r (λ _. S)
all_made (Ok x) P Q R S p q r f = f p q r
all_made (Err e) P Q R S p q r f = tt

module _ {A T C : Type 0} (balances : A → List ℤ) (free : A → ℕ) (shares : T → Sharing) (decides : C → Deciding) where
  pub takes : (d : Room A T C) (g : Log) (r : Request) (d' : Room A T C) (g' : Log) (call : Call) (answer : Answer) (list : List Line) (told : ℕ)
      → call ≡ meant (room_books balances free shares decides d) r → told ≡ min (lines_told call answer) (length list) → Turns balances free shares decides d call (told_by call answer list) d'
      → vec_items g'.calls ≡ vec_items g.calls ++ call ∷ [] → vec_items g'.answers ≡ vec_items g.answers ++ answer ∷ [] → vec_items g'.lines ≡ vec_items g.lines ++ take (told - 0) list
      → Takes balances free shares decides d g r d' g'
  takes d g r d' g' call answer list told is many t cs ys ls = record {
    answer = answer;
    lines = take (lines_told call answer) list;
    turns = subst (λ (x : Call). Turns balances free shares decides d x (told_by call answer list) d') is t;
    calls = cs ∙ ap (λ (x : Call). vec_items g.calls ++ x ∷ []) is;
    answers = ys;
    told = ls ∙ ap (λ (xs : List Line). vec_items g.lines ++ xs) (ap (λ (k : ℕ). take (k - 0) list) many ∙ take-capped (lines_told call answer) list);
  }
