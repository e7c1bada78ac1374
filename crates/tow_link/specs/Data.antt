-- What contracts see of the streams: plain data.
use Rattle.std.specs.Prelude.{ℕ, ◌+◌, ◌-◌, ◌^◌, ◌≤◌, min, List, [], ◌++◌, Option, Some}

-- the bytes that were read of a source, and those that are left
pub record Told : Type 0 where
  pub read : List ℕ
  pub left : List ℕ

-- all the bytes of a source
abbrev pub content_of : Told → List ℕ
content_of told = told.read ++ told.left

-- how often a source has failed and, where it tells, its bytes
pub record SourceData : Type 0 where
  pub faults : ℕ
  pub told : Option Told

-- a source of these bytes that has not failed, and of which nothing was read
abbrev pub fresh_source : List ℕ → SourceData
fresh_source bytes = record { faults = 0; told = Some (record { read = []; left = bytes }) }

-- how often a sink has failed and, where it tells, what was written
pub record SinkData : Type 0 where
  pub faults : ℕ
  pub written : Option (List ℕ)

-- the numbers of some calls, and the number of the next call
pub record CallNumbersData : Type 0 where
  pub numbers : List ℕ
  pub next : ℕ

-- a count of 64 bits after one more: it stands still at its last value
abbrev pub raised : ℕ → ℕ
raised count = min (count + 1) (2 ^ 64 - 1)

-- A count rose. One that stands at its last value is taken to have risen.
abbrev pub Rose : ℕ → ℕ → Type 0
Rose before now = raised before ≤ now
