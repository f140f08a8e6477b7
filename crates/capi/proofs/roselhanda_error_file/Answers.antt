use Rattle.capi.proofs.ExportLaws.{error_exported}
use Rattle.capi.proofs.roselhanda_error_file.Goals as goal

pub returns : goal.returns
returns c =
    error_exported _ _ _ _ _ _ _ _ _ c.write-wrote.result c.write-wrote.ensures c.tell_count.ensures.value c.tell_count.ensures.word_after
