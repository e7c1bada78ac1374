-- Links made of parts: what they show.
use Rattle.std.specs.Prelude.{ℕ, ◌+◌, List, [], Some}
use Rattle.tow_link.specs.Data.{SourceData, SinkData}
use Rattle.tow_peer.specs.Links.{LinkData}

-- 127.0.0.1
abbrev pub local_peer : ℕ
local_peer = 2130706433

-- a source and a sink as a link, which never stalls, and fails as often as both
abbrev pub joined_link : SourceData → SinkData → LinkData
joined_link input output = record {
  faults = input.faults + output.faults;
  read_stalls = 0;
  write_stalls = 0;
  peer = Some local_peer;
  input = input.told;
  written = output.written;
}

-- a link to this peer that was not used yet, with these bytes to come
abbrev pub fresh_link : ℕ → List ℕ → LinkData
fresh_link peer bytes = record {
  faults = 0;
  read_stalls = 0;
  write_stalls = 0;
  peer = Some peer;
  input = Some (record { read = []; left = bytes });
  written = Some [];
}
