-- Records in a file may go to another thread: each of their parts may.
use denote.RattleType.{RattleType}
use denote.Param.Send.{IsSend, sendable}
use denote.Param.SendFields.{declared_send, as_row_send}
use Rattle.ln_sqlite.proofs.sql_store.SqliteStore.TheSendSync as store
use Rattle.ln_sqlite.specs.contracts.sql_store.SqliteStore as SqliteStore
use Rattle.sqlite_trees.specs.declared.store.Store as Store
use Rattle.sqlite_store.proofs.store.FileStore.TheSendSync as files
use Rattle.sqlite_store.specs.contracts.store.FileStore as FileStore
use Rattle.sqlite_store.specs.contracts.store.FileStoreStore.TheImpl as file_store
use Rattle.sqlite_disk.specs.declared.Disk as Disk
use Rattle.sqlite_disk.proofs.modelled.Modelled.TheSendSync as modelled
use Rattle.sqlite_disk.specs.contracts.modelled.Modelled as Modelled
use Rattle.sqlite_disk.specs.contracts.modelled.ModelledDisk.TheImpl as disk
use Rattle.sqlite_disk.specs.contracts.start.Unknown as Unknown
use Rattle.sqlite_disk.specs.contracts.start.UnknownStart.TheImpl as start
use Rattle.sqlite_std_file.specs.contracts.host.Host as Host
use Rattle.sqlite_std_file.specs.contracts.host.HostCalls.TheImpl as calls
use Rattle.ln_sqlite.specs.contracts.file_records.FileRecords.{the_row, the_type}

host-send : IsSend Host.the_row
host-send = search sendable depth 10

-- A file.
abbrev M : RattleType
M = Modelled.the_row Host.the_row Unknown.the_row calls.ghosts start.ghosts

modelled-send : IsSend M
modelled-send = modelled.the_send Host.the_row Unknown.the_row calls.ghosts start.ghosts host-send

abbrev M-disk : Disk.Ghosts M.Denot
M-disk = disk.ghosts Host.the_row Unknown.the_row calls.ghosts disk.no_dict start.ghosts disk.no_dict disk.no_dict

-- A database's pages in files.
abbrev F : RattleType
F = FileStore.the_row M M-disk

files-send : IsSend F
files-send = files.the_send M M-disk modelled-send

abbrev F-store : Store.Ghosts F.Denot
F-store = file_store.ghosts M M-disk file_store.no_dict

-- Records in it.
store-send : IsSend (SqliteStore.the_field F F-store).row
store-send = store.the_field_send F F-store files-send

pub records_send : IsSend the_row
records_send = declared_send the_type (as_row_send (SqliteStore.the_field F F-store) store-send, tt)
