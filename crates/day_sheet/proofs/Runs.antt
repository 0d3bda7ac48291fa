-- Numbers spelled side by side, read one after another. Assumes nothing.
use Rattle.std.proofs.Common.{◌≡◌, ℕ, ◌+◌, ◌-◌, ◌^◌, ◌<◌, ◌≤◌, List, [], ◌∷◌, ◌++◌, map, length, take, drop, set, ℤ, pos, Some, None, Ok, Err, Result, sym, ap, ◌∙◌, subst, arith}
use Rattle.std.specs.List.{flat_map}
use Rattle.std.proofs.lemmas.List.{append_assoc, flat_map_more, length-append, length-drop, map_push, take_more_set, take_rest}
use Rattle.std.proofs.ByRecursion.{All-push}
use Rattle.std.specs.Result.{result_ok}
use Rattle.day_sheet.specs.declared.groups.Number.{Number}
use Rattle.day_sheet.specs.declared.groups.NoNumber.{NoNumber}
use Rattle.day_sheet.specs.declared.groups.NoNumber.TheVariants as why
use Rattle.day_sheet.specs.Groups.{groups, Short, Begins}
use Rattle.day_sheet.specs.Readings.{NumberAt}
use Rattle.day_sheet.specs.Fields.{Spelt, ReadOff}
use Rattle.day_sheet.proofs.Spelling.{groups-some, groups-bound}

pub begins_room : (bytes : List ℕ) (at n len : ℕ) → Begins (drop at bytes) n (drop (at + len) bytes) → len ≡ length (groups n) → (at + len ≤ length bytes) × (1 ≤ len)
begins_room bytes at n len b l =
    let e = ap length b.1 in
    let s = groups-some n in
    (omega (arith, length-drop at bytes, length-append (groups n) (drop (at + len) bytes)), omega arith)

pub spelt_more : (ns bytes : List ℕ) (at n len : ℕ) → Spelt ns bytes at → Begins (drop at bytes) n (drop (at + len) bytes) → len ≡ length (groups n) → Spelt (ns ++ n ∷ []) bytes (at + len)
spelt_more ns bytes at n len s b l =
    let j : flat_map groups (ns ++ n ∷ []) ≡ flat_map groups ns ++ groups n = sym (flat_map_more groups [] ns n) in
    let f : bytes ≡ (flat_map groups ns ++ groups n) ++ drop (at + len) bytes = s.front ∙ ap (λ r. flat_map groups ns ++ r) b.1 ∙ sym (append_assoc (flat_map groups ns) (groups n) (drop (at + len) bytes)) in
    record {
      short = All-push Short ns n s.short b.0;
      front = f ∙ ap (λ g. g ++ drop (at + len) bytes) (sym j);
      place = omega (arith, s.place, l, ap length j, length-append (flat_map groups ns) (groups n));
    }

pub spelt_within : (ns bytes : List ℕ) (at : ℕ) → Spelt ns bytes at → at ≤ length bytes
spelt_within ns bytes at s = omega (arith, ap length s.front, s.place, length-append (flat_map groups ns) (drop at bytes))

-- ---- a turn of the loop that keeps the numbers
pub kept_more : (kept : List ℤ) (bytes : List ℕ) (i at n len : ℕ) → i < length kept → ReadOff (take i kept) bytes at → Begins (drop at bytes) n (drop (at + len) bytes) → len ≡ length (groups n) → ReadOff (take (i + 1) (set kept i (pos n))) bytes (at + len)
kept_more kept bytes i at n len h read b l =
    let e : take (i + 1) (set kept i (pos n)) ≡ map pos (read.0 ++ n ∷ []) = take_more_set kept i (pos n) h ∙ ap (λ zs. zs ++ pos n ∷ []) read.1 ∙ sym (map_push pos read.0 n) in
    (read.0 ++ n ∷ [], e, spelt_more read.0 bytes at n len read.2 b l)

-- nine groups of seven bits leave the sign's bit free
pub short-fits : (n : ℕ) → Short n → n < 2 ^ 63
short-fits n s = groups-bound 9 n s

-- ---- the first of a run, and the rest
pub record FirstOf (bytes : List ℕ) (n : Number) : Type 0 where
  pub begins : Begins bytes n.value (take (length bytes - n.length) (drop n.length bytes))
  pub size : n.length ≡ length (groups n.value)
  pub within : n.length ≤ length bytes
  pub shorter : length (take (length bytes - n.length) (drop n.length bytes)) < length bytes

pub first_of : (bytes : List ℕ) (r : Result Number NoNumber) (n : Number) → NumberAt bytes 0 r → Some n ≡ result_ok r → FirstOf bytes n
first_of bytes (Err w) n at is = cc
first_of bytes (Ok m) n (b, l) is = let e : m ≡ n = cc in subst (FirstOf bytes) e of
  where
    of : FirstOf bytes m
    of =
        let z : 0 + m.length ≡ m.length = omega arith in
        let room = begins_room bytes 0 m.value m.length b l in
        record {
          begins = (b.0, b.1 ∙ ap (λ k. groups m.value ++ drop k bytes) z ∙ ap (λ r. groups m.value ++ r) (sym (take_rest bytes m.length)));
          size = l;
          within = omega (arith, room.0);
          shorter = omega (arith, room.0, room.1, ap length (take_rest bytes m.length), length-drop m.length bytes);
        }

pub none_first : (bytes : List ℕ) (r : Result Number NoNumber) → NumberAt bytes 0 r → None ≡ result_ok r → (n : ℕ) (rest : List ℕ) → Begins bytes n rest → ⊥
none_first bytes (Ok m) at is n rest b = cc
none_first bytes (Err why.NoByte) at is n rest b = omega (arith, ap length b.1, groups-some n, length-append (groups n) rest)
none_first bytes (Err why.Broken) at is n rest b = at.1 n rest b
