mod ArcChains
