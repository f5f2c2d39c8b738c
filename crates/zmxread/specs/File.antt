-- What a lens file says, as its definition sees it.
use Rattle.lensmodel.specs.Files.LensFile.{LensFile}
use Rattle.zmxread.specs.declared.file.ZmxFile.{ZmxFile}

abbrev pub lens_file : ZmxFile → LensFile
lens_file f = record { lens = f.lens; unused = f.unused }
