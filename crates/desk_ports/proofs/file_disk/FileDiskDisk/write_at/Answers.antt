-- Of a real file nothing is told, so that a write that did nothing serves.
use Rattle.desk_ports.specs.DiskLaws.{torn_none}
use Rattle.desk_ports.proofs.file_disk.FileDiskDisk.write_at.Goals as goal

pub returns-clause-images : goal.returns-clause-images
returns-clause-images g c = λ image was. (image, tt, torn_none image _ _)
