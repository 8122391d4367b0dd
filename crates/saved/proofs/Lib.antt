mod Injective
mod Results
