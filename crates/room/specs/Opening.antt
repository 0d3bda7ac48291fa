-- A room just opened, and a room closed. Assumes nothing.
use Rattle.std.specs.Prelude.{◌≡◌, ℕ, List, [], ℤ}
use Rattle.terms.specs.declared.plan.Plan.{Plan}
use Rattle.tie_rules.specs.Sharing.{Sharing}
use Rattle.conventions.specs.Deciding.{Deciding}
use Rattle.house.specs.Calls.{house_books}
use Rattle.house.specs.declared.house.House.{House}
use Rattle.room.specs.Rooms.{room_books, Live, Led}
use Rattle.room.specs.Runs.{New, closed}
use Rattle.room.specs.declared.room.Room.{Room}

module _ {A T C : Type 0} (balances : A → List ℤ) (free : A → ℕ) (shares : T → Sharing) (decides : C → Deciding) where
  -- a room over a house just made: on new accounts, no call led here
  pub record Opens (P : Plan) (accounts : A) (rule : T) (convention : C) (d : Room A T C) : Type 0 where
    pub plan : d.house.book.plan ≡ P
    pub held : d.house.accounts ≡ accounts
    pub rule_is : d.house.tie_rule ≡ rule
    pub convention_is : d.house.convention ≡ convention
    pub led : New (balances accounts) → Led balances free shares decides d (free accounts) []

  -- a closed room leaves its house, with no auction standing
  pub record Closes (d : Room A T C) (h : House A T C) : Type 0 where
    pub books : Live balances free shares decides d → house_books balances free h ≡ closed (room_books balances free shares decides d)
    pub plan : h.book.plan ≡ d.house.book.plan
    pub rule_is : h.tie_rule ≡ d.house.tie_rule
    pub convention_is : h.convention ≡ d.house.convention
