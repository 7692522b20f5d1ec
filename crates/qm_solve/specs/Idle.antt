-- Entries that name sets.
use Rattle.std.specs.Prelude.{ℕ, ◌<◌, ◌≤◌, List, length, slice_index}

-- Each entry is 0 or names one of so many sets, from 1.
abbrev pub AreNamed : (sets : ℕ) (entries : List ℕ) → Type 0
AreNamed sets entries = (i : ℕ) → i < length entries → slice_index entries i ≤ sets
