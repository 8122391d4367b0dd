mod WrittenTrees
mod Wordings
mod Holders
mod RowsLifted
mod Lifted
