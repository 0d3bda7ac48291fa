-- One request of a run: the call that it means is made and logged. Assumes nothing.
use Rattle.std.specs.Prelude.{◌≡◌, ℕ, List, [], ◌∷◌, ◌++◌, ℤ, vec_items}
use Rattle.tie_rules.specs.Sharing.{Sharing}
use Rattle.conventions.specs.Deciding.{Deciding}
use Rattle.rules.specs.Numbers.{Answer}
use Rattle.rules.specs.declared.hedge.Line.{Line}
use Rattle.room.specs.Rooms.{room_books, Turns}
use Rattle.room.specs.Runs.{meant}
use Rattle.room.specs.declared.log.Log.{Log}
use Rattle.room.specs.declared.request.Request.{Request}
use Rattle.room.specs.declared.room.Room.{Room}

module _ {A T C : Type 0} (balances : A → List ℤ) (free : A → ℕ) (shares : T → Sharing) (decides : C → Deciding) where
  -- its answer and its lines, which the log then has behind what it had
  pub record Takes (d : Room A T C) (g : Log) (r : Request) (d' : Room A T C) (g' : Log) : Type 0 where
    pub answer : Answer
    pub lines : List Line
    pub turns : Turns balances free shares decides d (meant (room_books balances free shares decides d) r) (record { answer = answer; lines = lines }) d'
    pub calls : vec_items g'.calls ≡ vec_items g.calls ++ meant (room_books balances free shares decides d) r ∷ []
    pub answers : vec_items g'.answers ≡ vec_items g.answers ++ answer ∷ []
    pub told : vec_items g'.lines ≡ vec_items g.lines ++ lines
