use Rattle.refinement.proofs.Queues.{queues_stand, queues_track, tells_each_store}
use Rattle.refinement.proofs.Ready.{tells_able, tells_part, tells_ready}
use Rattle.refinement.proofs.Room.{counts_room, holds_older}
use Rattle.refinement.proofs.Stations.{counts_stations, holds_waiting, station_for, stations_older, stations_younger}
use Rattle.refinement.proofs.Table.{finds_awaited, finds_writer, names_entry, names_root, names_writer}
use Rattle.refinement.proofs.Visible.{tells_given, tells_operands, tells_taint, tells_visible}
use Rattle.refinement.proofs.Writers.{tells_writers}
use Rattle.refinement.proofs.parts_tell_of_window.Goals as goal

pub returns : goal.returns
returns c = record {
  room = counts_room;
  older = holds_older;
  writer = names_writer;
  entry = names_entry;
  found = finds_writer;
  awaits = finds_awaited;
  writers = tells_writers;
  waiting = holds_waiting;
  station = station_for;
  count = counts_stations;
  older_stations = stations_older;
  younger_stations = stations_younger;
  gives = tells_given;
  ready = tells_ready;
  able = tells_able;
  part = tells_part;
  visible = tells_visible;
  root = names_root;
  taint = tells_taint;
  operands = tells_operands;
  queues = queues_stand;
  tracks = queues_track;
  stores = tells_each_store;
}
